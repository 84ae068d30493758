use Rattle.std.proofs.Common.{◌<◌, length, ◌∙◌, arith}
use Rattle.std.proofs.lemmas.List.{get_or_read}
use Rattle.mrp_netting.specs.PlanningBound.{data_of}
use Rattle.mrp_netting.proofs.OrderSteps.{IsStocked, is_stocked, came-length, came-at}
use Rattle.mrp_netting.proofs.orders.order_and_stock.Goals as goal
use Rattle.mrp_netting.proofs.orders.order_and_stock.Goals.{After-index-gross-t}

-- the balance after the period
stocked : (c : After-index-gross-t)
    → IsStocked (data_of c.args.given.now c.args.gross.now) c.args.t c.args.before c.index-incoming-t.result c.order_for-ordered.result c.index-gross-t.result
stocked c =
    let d = data_of c.args.given.now c.args.gross.now in
    let t = c.args.t in
    let incoming = c.args.incoming.now in
    let there : t < length incoming = omega (arith, came-length d incoming c.requires.incoming) in
    let required = get_or_read d.gross t _ c.requires.period c.index-gross-t.is 0 in
    let came = came-at d incoming t _ c.requires.incoming (get_or_read incoming t _ there c.index-incoming-t.is 0) in
    is_stocked d t c.args.before c.index-incoming-t.result c.order_for-ordered.result c.index-gross-t.result c.requires.within c.requires.period
    c.requires.before came c.order_for-ordered.ensures required

pub bounds-incoming-t : goal.bounds-incoming-t
bounds-incoming-t c =
    let d = data_of c.args.given.now c.args.gross.now in
    omega (arith, came-length d c.args.incoming.now c.requires.incoming)

pub balance_after-after-requires-clause-covered : goal.balance_after-after-requires-clause-covered
balance_after-after-requires-clause-covered c = (stocked c).covered

pub balance_after-after-requires-clause-within : goal.balance_after-after-requires-clause-within
balance_after-after-requires-clause-within c = (stocked c).small

pub returns-clause-order : goal.returns-clause-order
returns-clause-order c = (stocked (goal.at.returns-clause-order c).After-index-gross-t).order

pub returns-clause-balance : goal.returns-clause-balance
returns-clause-balance c = c.balance_after-after.ensures ∙ (stocked (goal.at.returns-clause-balance c).After-index-gross-t).next
