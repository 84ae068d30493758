use Rattle.std.proofs.Common.{◌≡◌, ℕ, ◌+◌, ◌-◌, sum, take, ◌∙◌, ap, arith}
use Rattle.std.proofs.lemmas.List.{get_or_read}
use Rattle.mrp_netting.specs.PlanningData.{earliest}
use Rattle.mrp_netting.specs.PlanningBound.{data_of}
use Rattle.mrp_netting.proofs.RowSums.{slice_index-le}
use Rattle.mrp_netting.proofs.ReleaseSteps.{released-start, released-step, released-end}
use Rattle.mrp_netting.proofs.releasing.release_all.Goals as goal

pub loop-t-init : goal.loop-t-init
loop-t-init c =
    let d = data_of c.args.given.now c.args.gross.now in
    let order = c.args.order.now in
    let row = c.put_pieces.new.row in
    let p = c.earliest_period-earliest.result - d.params.lead in
    let same : c.earliest_period-earliest.result + 1 ≡ earliest d + 1 = omega (arith, c.earliest_period-earliest.ensures) in
    let first = c.of.ensures ∙ c.front_quantity-first.ensures ∙ ap (λ (n : ℕ). sum (take n order)) same in
    let start = released-start d order row p c.of.result (c.put_pieces.ensures.size ∙ c.requires.room)
    (omega (arith, c.requires.within.fence, c.earliest_period-earliest.ensures)) c.put_pieces.ensures.each
    (omega (arith, c.earliest_period-earliest.ensures)) first in
    rw (c.add.ensures, same) start

pub add-requires-in-loop-t-clause-period : goal.add-requires-in-loop-t-clause-period
add-requires-in-loop-t-clause-period c =
    omega (arith, c.loop-t.invariant.size, c.requires.orders)

pub add-requires-in-loop-t-clause-within : goal.add-requires-in-loop-t-clause-within
add-requires-in-loop-t-clause-within c =
    let d = data_of c.args.given.now c.args.gross.now in
    let t = c.loop-t.t in
    let p = t - d.params.lead in
    let here = get_or_read c.args.order.now t _ (omega arith) c.index-order-t.is 0 in
    let firm = c.loop-t.invariant.rest p (omega (arith, c.earliest_period-earliest.ensures)) in
    omega (arith, here, firm, slice_index-le c.args.order.now t, slice_index-le d.firm_start p, c.requires.total)

pub loop-t-preserved : goal.loop-t-preserved
loop-t-preserved c =
    let d = data_of c.args.given.now c.args.gross.now in
    let t = c.loop-t.t in
    let order = c.args.order.now in
    let here = get_or_read order t _ (omega arith) c.index-order-t.is 0 in
    rw c.add-in-loop-t.ensures
    (released-step d order c.loop-t.release t (t - d.params.lead) c.index-order-t.result c.loop-t.invariant
    (omega (arith, c.earliest_period-earliest.ensures)) (omega (arith, c.requires.orders)) (omega (arith, c.earliest_period-earliest.ensures)) here)

pub returns : goal.returns
returns c =
    let d = data_of c.args.given.now c.args.gross.now in
    released-end d c.args.order.now c.loop-t.release c.loop-t.t c.loop-t.invariant (omega (arith, c.earliest_period-earliest.ensures)) c.requires.orders
    (omega (arith, c.requires.orders))
