-- A crew of workers: which agents it can plan for, and what planning some pairs does to an agent.
use Rattle.std.specs.Prelude.{◌≡◌, ℕ, ◌+◌, Bool, true, false, List, [], ◌∷◌, length, All}
use Rattle.mrp_master_data.specs.declared.numbers.PairNo.{PairNo}
use Rattle.mrp_master_data.specs.Table.{Table}
use Rattle.mrp_loops.specs.Sized.{IsSized}
use Rattle.mrp_record.specs.declared.record.Record.{Record}
use Rattle.mrp_protocol.specs.State.{State, changed}
use Rattle.mrp_readiness.specs.Progress.{left_of}
use Rattle.mrp_agent.specs.InNetwork.{WorksIn}
use Rattle.mrp_agent.specs.Shows.{ShowsHistory}
use Rattle.mrp_agent.specs.State.{AgentState}

-- the agent of a plant of some sized network, to which legal beginnings have come
pub record IsPlannable (A : AgentState) : Type 0 where
  pub network : Table
  pub sized : IsSized network
  pub plant : ℕ
  pub state : State
  pub works : WorksIn network plant state A

-- the planned pairs, and these with them
abbrev pub all_planned : (ℕ → Bool) → List PairNo → ℕ → Bool
all_planned planned [] = planned
all_planned planned (x ∷ xs) = all_planned (changed planned x.0 true) xs

-- the state once these pairs are planned
abbrev pub after_planning : State → List PairNo → State
after_planning s xs = record s { planned = all_planned s.planned xs }

-- none of these is planned
abbrev pub AreUnplanned : (ℕ → Bool) → List PairNo → Type 0
AreUnplanned planned xs = All (λ x. planned x.0 ≡ false) xs

-- The agent has planned these pairs and done nothing else: whatever lists of records and planned pairs it
-- showed, these pairs weren't planned, and it shows the same lists with them planned.
pub record PlansAll (old new : AgentState) (xs : List PairNo) : Type 0 where
  pub view : new.view ≡ old.view
  pub left : length xs + left_of new.progress.planned ≡ left_of old.progress.planned
  pub unplanned : (sent taken : ℕ → List Record) (planned : ℕ → Bool) → ShowsHistory old sent taken planned
      → AreUnplanned planned xs
  pub shows : (sent taken : ℕ → List Record) (planned : ℕ → Bool) → ShowsHistory old sent taken planned
      → ShowsHistory new sent taken (all_planned planned xs)
