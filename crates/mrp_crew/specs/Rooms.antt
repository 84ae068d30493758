-- A crew's workers: what they draft in, and what they bring back.
use Rattle.std.specs.Prelude.{◌≡◌, ℕ, ◌<◌, ◌≤◌, ◌++◌, true, List, [], Vec, length, map, reverse, All, vec_capacity}
use Rattle.std.specs.Global.{Global}
use Rattle.mrp_netting.specs.PlanRows.{PlanRows}
use Rattle.mrp_master_data.specs.declared.numbers.PairNo.{PairNo}
use Rattle.mrp_agent.specs.Drafts.{CanDraft, drafted}
use Rattle.mrp_agent.specs.State.{AgentState}
use Rattle.mrp_qty.specs.declared.limits.TheConstants.{MOST_WORKERS}
use Rattle.mrp_crew.specs.declared.work.Order.{Order}
use Rattle.mrp_crew.specs.declared.work.Work.{Work}
use Rattle.mrp_crew.specs.declared.work.Drafts.{Drafts}
use Rattle.mrp_crew.specs.Shut.{IsLetIn}

-- room for a plan of so many periods
abbrev pub IsRoom : ℕ → PlanRows → Type 0
IsRoom horizon room = length room.gross ≡ horizon

-- What a wave begins with: pairs that can be drafted, fewer than a crew may have workers beside the one that the
-- calling thread drafts, a room for each, and no thread and no result yet, but room for all.
pub record IsWave {Thread : Type 0} (A : AgentState) (beside : List PairNo) (here : PairNo) (free : List PlanRows)
    (threads : Vec Thread Global) (results : Vec Work Global) : Type 0 where
  pub others : All (CanDraft A) beside
  pub own : CanDraft A here
  pub rooms : All (IsRoom A.view.horizon) free
  pub enough : length beside < length free
  pub workers : (threads.items ≡ []) × (length beside ≤ vec_capacity threads)
  pub few : length beside < MOST_WORKERS
  pub works : (results.items ≡ []) × (length beside < vec_capacity results)

-- a worker's result: where the gate was open, its room has the plan that the agent drafts for its pair
pub record WorkedFor (A : AgentState) (work : Work) : Type 0 where
  pub room : IsRoom A.view.horizon work.room
  pub plan : work.open ≡ true → work.room ≡ drafted A work.pair

-- what the thread of an order brings back is of the order's pair, for the order's agent; where the gate
-- was shut to it, this holds of the order's plant and worker
pub record FulfilsOrder {G : Type 0} (Shut : ℕ → ℕ → Type 0) (order : Order G) (work : Work) : Type 0 where
  pub pair : work.pair ≡ order.pair
  pub worked : WorkedFor order.agent.value work
  pub shut : IsLetIn (Shut order.plant order.number) work

-- the pairs of some results
abbrev pub pairs_worked : List Work → List PairNo
pairs_worked works = map (λ work. work.pair) works

-- What the workers of a wave bring back: the results of the first of its pairs, the last of these first,
-- and of all where each could be started. Rooms that none took are still rooms.
pub record AreDrafts (A : AgentState) (pairs : List PairNo) (drafts : Drafts) : Type 0 where
  pub left_out : List PairNo
  pub front : pairs ≡ pairs_worked (reverse drafts.works.items) ++ left_out
  pub all : drafts.all ≡ true → length drafts.works.items ≡ length pairs
  pub worked : All (WorkedFor A) drafts.works.items
  pub rooms : All (IsRoom A.view.horizon) drafts.rooms.items
