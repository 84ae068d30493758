use Rattle.std.proofs.Common.{◌≡◌, ◌∙◌, ◌++◌, ℕ, List, length, ap, sym}
use Rattle.std.proofs.lemmas.Bool.{eqb-true}
use Rattle.std.proofs.lemmas.List.{append-nil}
use Rattle.std.proofs.lemmas.Result.{on_ok_weaker}
use Rattle.mrp_csv_out.specs.Writing.{written}
use Rattle.mrp_advice.specs.Beyond.{wholes_of}
use Rattle.mrp_advice.specs.OpenOrders.{open_orders}
use Rattle.mrp_advice.proofs.LineFacts.{line_has_dates, line_is_pair, no_messages, pair_is_advised}
use Rattle.mrp_advice.proofs.advice_report.put_pair_messages.Goals as goal

pub returns-then-is_empty-clause-rows : goal.returns-then-is_empty-clause-rows
returns-then-is_empty-clause-rows c =
    let N = c.args.report.now.network.now in
    let orders : c.get-orders.result.now ≡ open_orders N c.args.x.0 = c.get-orders.ensures ∙ c.requires.orders.slices c.args.x.0 c.requires.pair in
    let none : length c.get-orders.result.now ≡ 0 = eqb-true _ 0 (sym c.is_empty.ensures ∙ c.if-is_empty.true) in
    sym (ap (λ (t : List ℕ). written c.args.rows.now ++ t)
    (no_messages N c.args.report.now.plan.now c.args.x.0 (wholes_of c.args.report.now.wholes) c.args.report.now.until _ orders none)
    ∙ append-nil (written c.args.rows.now))

pub put_messages-requires-clause-dates : goal.put_messages-requires-clause-dates
put_messages-requires-clause-dates c = line_has_dates c.args.report.now.network.now c.args.x.0 (wholes_of c.args.report.now.wholes) c.args.report.now.until c.line_of-line.result
    c.line_of-line.ensures

pub put_messages-requires-clause-advised : goal.put_messages-requires-clause-advised
put_messages-requires-clause-advised c =
    let N = c.args.report.now.network.now in
    let orders : c.get-orders.result.now ≡ open_orders N c.args.x.0 = c.get-orders.ensures ∙ c.requires.orders.slices c.args.x.0 c.requires.pair in
    pair_is_advised N c.args.x.0 (wholes_of c.args.report.now.wholes) c.args.report.now.until c.line_of-line.result _ _ c.requires.sized c.requires.pair c.line_of-line.ensures
    c.find_lacks.ensures.room orders

pub returns-clause-rows : goal.returns-clause-rows
returns-clause-rows c =
    let N = c.args.report.now.network.now in
    let orders : c.get-orders.result.now ≡ open_orders N c.args.x.0 = c.get-orders.ensures ∙ c.requires.orders.slices c.args.x.0 c.requires.pair in
    on_ok_weaker c.put_messages.result
    (λ e. e
    ∙ ap (λ t. written c.args.rows.now ++ t)
    (line_is_pair N c.args.report.now.plan.now c.args.x.0 (wholes_of c.args.report.now.wholes) c.args.report.now.until c.line_of-line.result _ _ _
    c.line_of-line.ensures c.policy.ensures c.find_lacks.ensures.lacks orders))
    c.put_messages.ensures.rows
