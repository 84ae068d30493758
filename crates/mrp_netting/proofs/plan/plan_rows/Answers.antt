use Rattle.std.proofs.Common.{◌≡◌, ℕ, List, length, sum, sym, ◌∙◌, ap, subst, arith}
use Rattle.std.proofs.lemmas.List.FromFn.{length-map-range_with_len}
use Rattle.mrp_netting.specs.PlanRows.{PlanRows, late_periods}
use Rattle.mrp_netting.specs.Plan.{AreLate}
use Rattle.mrp_netting.specs.PlanningData.{release_row}
use Rattle.mrp_netting.specs.PlanningBound.{IsWithinData, data_of}
use Rattle.mrp_netting.proofs.DataPlans.{AreWritten, written_is}
use Rattle.mrp_netting.proofs.DataRows.{length-order_row, orders_within}
use Rattle.mrp_netting.proofs.Lates.{are_late, late_few}
use Rattle.mrp_netting.proofs.OrderSteps.{length-incoming_row}
use Rattle.mrp_netting.proofs.plan.plan_rows.Goals as goal
use Rattle.mrp_netting.proofs.plan.plan_rows.Goals.{After-order_all}

-- the gross requirements that are read are those that stand in the plan
read_is : (c : After-order_all) → c.as_slice-required.result.now ≡ c.args.into.now.gross
read_is c = c.as_slice-required.ensures.value ∙ ap (λ (rows : PlanRows). rows.gross) c.into.view_is

-- there are as many orders as periods
ordered_length : (c : After-order_all) → length c.order_all.new.order ≡ length c.as_slice-required.result.now
ordered_length c = ap length c.order_all.ensures.orders ∙ length-order_row (data_of c.args.given.now c.as_slice-required.result.now)

pub release_all-requires-clause-orders : goal.release_all-requires-clause-orders
release_all-requires-clause-orders c =
    ap length c.as_slice-2.ensures.value ∙ ordered_length (goal.at.release_all-requires-clause-orders c).After-order_all

pub release_all-requires-clause-total : goal.release_all-requires-clause-total
release_all-requires-clause-total c =
    let given = c.args.given.now in
    let read = c.as_slice-required.result.now in
    let is : IsWithinData (data_of given read) =
    subst (λ (row : List ℕ). IsWithinData (data_of given row)) (sym (read_is (goal.at.release_all-requires-clause-total c).After-order_all))
    c.requires in
    let all = ap (λ (row : List ℕ). sum row) (c.as_slice-2.ensures.value ∙ c.order_all.ensures.orders) in
    omega (arith, all, orders_within (data_of given read) is, is.firm, is.total)

pub note_late-requires-clause-room : goal.note_late-requires-clause-room
note_late-requires-clause-room c =
    let planned = (goal.at.note_late-requires-clause-room c).After-order_all in
    omega (
      arith,
      ap length c.as_slice-3.ensures.value,
      ordered_length planned,
      ap length (read_is planned),
      ap (λ (rows : PlanRows). length rows.gross) c.into.view_is,
      c.into.invariant.4,
    )

pub invariant_of-into : goal.invariant_of-into
invariant_of-into c =
    let planned = (goal.at.invariant_of-into c).After-order_all in
    let d = data_of c.args.given.now c.as_slice-required.result.now in
    let order = c.order_all.new.order in
    let lead = c.earliest_period-into-inside.result in
    let g = ap length c.as_slice-required.ensures.value in
    let r = ap length (read_is planned) in
    let i = ap length c.plan_incoming.ensures ∙ length-incoming_row d in
    let o = ordered_length planned in
    let s = ap length c.release_all.ensures ∙ length-map-range_with_len _ 0 (length d.gross) in
    let a = ap length c.order_all.ensures.balances ∙ length-map-range_with_len _ 0 (length d.gross) in
    let was = ap (λ (rows : PlanRows). length rows.gross) c.into.view_is in
    let again : c.as_slice-3.result.now ≡ order = c.as_slice-3.ensures.value in
    let late = c.note_late.ensures.periods ∙ ap (λ (xs : List ℕ). late_periods lead xs (length xs)) again in (
      omega (arith, g, i),
      omega (arith, g, o),
      omega (arith, g, s),
      omega (arith, g, a),
      omega (arith, g, r, was, c.into.invariant.4, c.note_late.ensures.room),
      subst (AreLate lead order) (sym late) (are_late lead order),
      omega (arith, ap length late, late_few lead order, g, o),
    )

pub returns : goal.returns
returns c =
    let planned = (goal.at.returns c).After-order_all in
    let given = c.args.given.now in
    let read = c.as_slice-required.result.now in
    let order = c.order_all.new.order in
    let lead = c.earliest_period-into-inside.result in
    let same : c.as_slice-2.result.now ≡ order = c.as_slice-2.ensures.value in
    let again : c.as_slice-3.result.now ≡ order = c.as_slice-3.ensures.value in
    let are : AreWritten given read c.plan_incoming.new.incoming order c.release_all.new.release c.order_all.new.available lead c.note_late.new.late.items =
    record {
      incoming_is = c.plan_incoming.ensures;
      order_is = c.order_all.ensures.orders;
      available_is = c.order_all.ensures.balances;
      release_is = c.release_all.ensures ∙ ap (release_row (data_of given read)) same;
      lead_is = c.earliest_period-into-inside.ensures;
      late_is = c.note_late.ensures.periods ∙ ap (λ (xs : List ℕ). late_periods lead xs (length xs)) again;
    } in
    written_is given c.args.into.now.gross c.into.inside.gross read c.plan_incoming.new.incoming order c.release_all.new.release c.order_all.new.available
    c.note_late.new.late.items lead are (read_is planned) (ap (λ (rows : PlanRows). rows.gross) c.into.view_is)
