use Rattle.std.proofs.Common.{Err, ap, refl}
use Rattle.std.proofs.lemmas.Result.{err_from_is_err_and}
use Rattle.mrp_report.specs.Orders.{order_text}
use Rattle.mrp_api.specs.Reports.{IsOrderReport}
use Rattle.mrp_api.proofs.TextFacts.{report-fails}
use Rattle.mrp_api.proofs.writing.report_orders.Goals as goal

pub returns-in_err-order_rows-clause-text : goal.returns-in_err-order_rows-clause-text
returns-in_err-order_rows-clause-text g c =
    let p = err_from_is_err_and c.from_residual-in_err-order_rows.result c.from_residual-in_err-order_rows.ensures.1 in
    let N = c.args.net.now.network in
    rw p.1
    (report-fails _ _ (order_text c.args.heading c.args.until N c.in_ok-plan.plan) c.in_err-order_rows.field-0.0 p.0
    (IsOrderReport c.args.until c.args.heading N)
    (c.requires, (c.in_ok-plan.plan, c.in_ok-plan.ensures.fits, refl)) c.in_err-order_rows.ensures.text
    (λ same. ap g.W.Write.contents (c.in_err-order_rows.ensures.untouched (ap Err same))) p.2)

pub returns-clause-text : goal.returns-clause-text
returns-clause-text g c =
    let N = c.args.net.now.network in (
      _,
      (c.requires, (c.in_ok-plan.plan, c.in_ok-plan.ensures.fits, refl)),
      c.in_ok-order_rows.ensures.text,
    )
