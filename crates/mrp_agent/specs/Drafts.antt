-- The agent: what it drafts for a pair, the plan by the rows that it has.
use Rattle.std.specs.Prelude.{ℕ, ◌+◌, List, map, Contains}
use Rattle.mrp_netting.specs.PlanRows.{PlanRows}
use Rattle.mrp_netting.specs.PlanningData.{PairData, planned, one}
use Rattle.mrp_netting.specs.PlanningBound.{IsWithinData}
use Rattle.mrp_master_data.specs.declared.numbers.PairNo.{PairNo}
use Rattle.mrp_plant_view.specs.Seen.{IsOwnPair}
use Rattle.mrp_readiness.specs.Chosen.{number_at}
use Rattle.mrp_protocol.specs.LocalPlans.{amount_at, asked_within, local_row}
use Rattle.mrp_agent.specs.State.{AgentState, plans_of, terms_owned}

-- what comes in of a pair at its time, beside firm planned orders, and what is asked for: beside the parents what has
-- come, and what their plans release
abbrev pub drafted_incoming : AgentState → PairNo → List ℕ
drafted_incoming A x = local_row A.view (λ t. amount_at A.view A.scheduled_receipts x t)

abbrev pub drafted_gross : AgentState → PairNo → List ℕ
drafted_gross A x = local_row A.view (λ t. amount_at A.view A.outside_demand x t + asked_within A.view (plans_of A) x t)

-- what a pair of the plant is planned from by these rows, and its plan
abbrev pub drafted_data : AgentState → PairNo → PairData
drafted_data A x = planned (terms_owned A.view x) (drafted_incoming A x) (drafted_gross A x)

abbrev pub drafted : AgentState → PairNo → PlanRows
drafted A x = one (drafted_data A x)

-- the numbers of the pairs that can be planned
abbrev pub ready_numbers : AgentState → List PairNo
ready_numbers A = map (number_at A.progress.numbers) A.progress.ready

-- a pair can be drafted: it can be planned, and its quantities are together within 10^15
pub record CanDraft (A : AgentState) (x : PairNo) : Type 0 where
  pub own : IsOwnPair A.view x
  pub ready : Contains (ready_numbers A) x
  pub within : IsWithinData (drafted_data A x)
