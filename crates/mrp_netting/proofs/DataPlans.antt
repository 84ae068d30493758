-- Netting one pair: the rows that were written from planning data are the plan of the pair.
use Rattle.std.proofs.Common.{◌≡◌, ℕ, max, List, length, ◌∙◌, ap}
use Rattle.mrp_netting.specs.declared.planning_data.PlanningData.{PlanningData}
use Rattle.mrp_netting.specs.PlanRows.{late_periods}
use Rattle.mrp_netting.specs.Plan.{late_orders_in}
use Rattle.mrp_netting.specs.PlanningData.{incoming_row, order_row, available_row, release_row, one}
use Rattle.mrp_netting.specs.PlanningBound.{data_of}
use Rattle.mrp_netting.proofs.Plans.{rows_of}

-- rows that were written from gross requirements that were read
pub record AreWritten (given : PlanningData) (read incoming order release available : List ℕ) (lead : ℕ) (late : List ℕ) : Type 0 where
  pub incoming_is : incoming ≡ incoming_row (data_of given read)
  pub order_is : order ≡ order_row (data_of given read)
  pub available_is : available ≡ available_row (data_of given read)
  pub release_is : release ≡ release_row (data_of given read) order
  pub lead_is : lead ≡ max given.params.lead given.policy.fence
  pub late_is : late ≡ late_periods lead order (length order)

pub written_is : (given : PlanningData) (gross asked read incoming order release available late : List ℕ) (lead : ℕ)
    → AreWritten given read incoming order release available lead late → read ≡ gross → asked ≡ gross
    → rows_of lead asked incoming order release available late ≡ one (data_of given gross)
unfolding one
written_is given gross asked read incoming order release available late lead are r g =
    let come = are.incoming_is ∙ ap (λ (row : List ℕ). incoming_row (data_of given row)) r in
    let ordered = are.order_is ∙ ap (λ (row : List ℕ). order_row (data_of given row)) r in
    let stock = are.available_is ∙ ap (λ (row : List ℕ). available_row (data_of given row)) r in
    let released = are.release_is ∙ ap (λ (row : List ℕ). release_row (data_of given row) order) r
    ∙ ap (release_row (data_of given gross)) ordered in
    let lead_is = are.lead_is in
    let lates = ap (late_orders_in lead order) are.late_is in
    cc
