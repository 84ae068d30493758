use Rattle.std.proofs.Common.{refl}
use Rattle.mrp_api.specs.Answer.{question_of}
use Rattle.mrp_api.proofs.AskedFacts.{usual_refuses}
use Rattle.mrp_api.proofs.TextFacts.{writes-of}
use Rattle.mrp_api.proofs.text.usual_text.Goals as goal

-- any table will do

pub returns-clause-text : goal.returns-clause-text
returns-clause-text g c = writes-of _ _ c.report_text.result _ _ (λ text is. (is.0, is.1, is.2.1)) c.report_text.ensures.text

pub returns-clause-refusal : goal.returns-clause-refusal
returns-clause-refusal g c = usual_refuses _ _ (question_of c.args.choice) c.report_text.result refl refl c.report_text.ensures.refusal

pub returns-clause-rows : goal.returns-clause-rows
returns-clause-rows g c = c.report_text.ensures.rows
