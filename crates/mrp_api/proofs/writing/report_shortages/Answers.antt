use Rattle.std.proofs.Common.{Err, ap, refl}
use Rattle.std.proofs.lemmas.Result.{err_from_is_err_and}
use Rattle.mrp_shortages.specs.ShortageRows.{shortage_text}
use Rattle.mrp_api.specs.Reports.{IsShortagesReport}
use Rattle.mrp_api.proofs.TextFacts.{report-fails}
use Rattle.mrp_api.proofs.writing.report_shortages.Goals as goal

pub returns-in_err-shortage_rows-clause-text : goal.returns-in_err-shortage_rows-clause-text
returns-in_err-shortage_rows-clause-text g c =
    let p = err_from_is_err_and c.from_residual-in_err-shortage_rows.result c.from_residual-in_err-shortage_rows.ensures.1 in
    let N = c.args.net.now.network in
    rw p.1
    (report-fails _ _ (shortage_text c.args.heading N c.in_ok-plan.plan) c.in_err-shortage_rows.field-0.0 p.0 (IsShortagesReport c.args.heading N)
    (c.requires, (c.in_ok-plan.plan, c.in_ok-plan.ensures.fits, refl)) c.in_err-shortage_rows.ensures.text
    (λ same. ap g.W.Write.contents (c.in_err-shortage_rows.ensures.untouched (ap Err same))) p.2)

pub returns-clause-text : goal.returns-clause-text
returns-clause-text g c =
    let N = c.args.net.now.network in (
      _,
      (c.requires, (c.in_ok-plan.plan, c.in_ok-plan.ensures.fits, refl)),
      c.in_ok-shortage_rows.ensures.text,
    )
