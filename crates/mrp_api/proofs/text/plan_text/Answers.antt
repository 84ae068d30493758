use Rattle.std.proofs.Common.{refl}
use Rattle.mrp_api.specs.Refusals.{AskByThreads}
use Rattle.mrp_api.proofs.AskedFacts.{usual_refuses}
use Rattle.mrp_api.proofs.TextFacts.{writes-of}
use Rattle.mrp_api.proofs.text.plan_text.Goals as goal

-- any table will do

pub returns-clause-text : goal.returns-clause-text
returns-clause-text g c = writes-of _ _ c.plan_as.result _ _ (λ text is. (is.0, is.1, is.2.1)) c.plan_as.ensures.text

pub returns-clause-refusal : goal.returns-clause-refusal
returns-clause-refusal g c = usual_refuses _ _ AskByThreads c.plan_as.result refl refl c.plan_as.ensures.refusal

pub returns-clause-rows : goal.returns-clause-rows
returns-clause-rows g c = c.plan_as.ensures.rows

pub returns-clause-gate : goal.returns-clause-gate
returns-clause-gate g c = c.plan_as.ensures.gate
