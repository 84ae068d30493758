use Rattle.std.proofs.Common.{subst, sym}
use Rattle.mrp_api.specs.Reports.{IsCodeReport}
use Rattle.mrp_api.proofs.TextFacts.{writes-of}
use Rattle.mrp_api.proofs.text.check_text.Goals as goal

pub returns-clause-text : goal.returns-clause-text
returns-clause-text g c =
    writes-of _ _ c.usual_text.result _ _
    (λ text is. (is.0, is.1, subst (IsCodeReport is.0) (sym is.2.2) is.2.1)) c.usual_text.ensures.text
