use Rattle.std.proofs.Common.{◌∙◌, ◌++◌, ap}
use Rattle.std.proofs.lemmas.Result.{on_ok_weaker}
use Rattle.mrp_csv_out.specs.Writing.{written}
use Rattle.mrp_report.proofs.OrderFacts.{firms_have_dates, line_is_pair, order_has_dates}
use Rattle.mrp_report.proofs.orders.put_pair_orders.Goals as goal

pub put_orders-requires-clause-periods : goal.put_orders-requires-clause-periods
put_orders-requires-clause-periods c =
    order_has_dates c.args.report.now.network.now c.args.report.now.plan.now c.args.x.0 _ _ c.requires.fits c.requires.pair c.pair.ensures
    c.line_of-line.ensures.line.dates

pub put_orders-requires-clause-firms : goal.put_orders-requires-clause-firms
put_orders-requires-clause-firms c =
    let N = c.args.report.now.network.now in
    firms_have_dates N c.args.x.0 c.args.report.now.until c.line_of-line.result c.line_of-line.ensures.firms c.line_of-line.ensures.line

pub returns-clause-rows : goal.returns-clause-rows
returns-clause-rows c =
    let N = c.args.report.now.network.now in
    on_ok_weaker c.put_orders.result
    (λ e. e
    ∙ ap (λ t. written c.args.rows.now ++ t)
    (line_is_pair N c.args.report.now.plan.now c.args.x.0 c.args.report.now.until c.line_of-line.result c.pair.result.now c.pair.ensures
    c.line_of-line.ensures.line))
    c.put_orders.ensures.rows
