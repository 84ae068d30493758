-- The agent in a network, laws: what agents plan is its plan, and what they send is what its lanes carry.
use Rattle.std.specs.Prelude.{◌≡◌, ℕ, ◌<◌, true, [], ◌∷◌, ◌++◌, length}
use Rattle.mrp_netting.specs.PlanningBound.{IsWithinData}
use Rattle.mrp_master_data.specs.Table.{Table, IsTable}
use Rattle.mrp_net.specs.Lanes.{lane_at}
use Rattle.mrp_plant_view.specs.Seen.{IsView}
use Rattle.mrp_plant_view.specs.View.{plant_rows}
use Rattle.mrp_loops.specs.Loop.{IsLoopFree}
use Rattle.mrp_loops.specs.Sized.{IsSized}
use Rattle.mrp_loops.specs.Within.{plan_at}
use Rattle.mrp_loops.specs.Order.{pair_of}
use Rattle.mrp_record.specs.declared.record.Record.{Record}
use Rattle.mrp_record.specs.Entries.{content}
use Rattle.mrp_record.specs.Text.{IsBeginning}
use Rattle.mrp_protocol.specs.Loads.{loads}
use Rattle.mrp_protocol.specs.State.{State, IsDecided}
use Rattle.mrp_protocol.specs.LocalLaws.{IsPairAt, IsReadyAt}
use Rattle.mrp_agent.specs.State.{AgentState, outgoing_at, plans_of}
use Rattle.mrp_agent.specs.Sending.{ContinuesSent, NothingContinues, IsWithin64}
use Rattle.mrp_agent.specs.Kept.{HasSmallOpenings}
use Rattle.mrp_agent.specs.Drafts.{drafted, drafted_data}
use Rattle.mrp_agent.specs.InNetwork.{WorksIn}

-- the plan that it keeps of a planned pair is the network's
abbrev pub PlannedPairsHaveThePlan : Type 0
PlannedPairsHaveThePlan =
    (N : Table) → IsTable N → IsLoopFree N
    → (plant : ℕ) (s : State) (A : AgentState) → WorksIn N plant s A
    → (x : ℕ) → IsPairAt N plant x → s.planned x ≡ true → plans_of A x ≡ plan_at N x

-- once nothing is missing for a pair, its rows in a sized network are together within 10^15
abbrev pub AgentDraftsAreWithin : Type 0
AgentDraftsAreWithin =
    (N : Table) → IsSized N
    → (plant : ℕ) (s : State) (A : AgentState) → WorksIn N plant s A
    → (x : ℕ) → IsPairAt N plant x → IsReadyAt N plant s.taken s.planned x
    → IsWithinData (drafted_data A (pair_of x))

-- and what it drafts by them is the network's plan of the pair
abbrev pub AgentDraftsAreThePlan : Type 0
AgentDraftsAreThePlan =
    (N : Table) → IsSized N
    → (plant : ℕ) (s : State) (A : AgentState) → WorksIn N plant s A
    → (x : ℕ) → IsPairAt N plant x → IsReadyAt N plant s.taken s.planned x
    → drafted A (pair_of x) ≡ plan_at N x

-- in a sized network the numbers and figures that it sends stay below 2^64
abbrev pub SentIsWithin64 : Type 0
SentIsWithin64 =
    (N : Table) → IsSized N
    → (plant : ℕ) (s : State) (A : AgentState) → WorksIn N plant s A
    → (k : ℕ) → k < length A.view.outgoing → IsWithin64 A s.taken k

-- and a record that it is given to send continues what it sent to a legal beginning of the network's lane
abbrev pub SentIsLegal : Type 0
SentIsLegal =
    (N : Table) → IsSized N
    → (plant : ℕ) (s : State) (A : AgentState) → WorksIn N plant s A
    → (k : ℕ) → k < length A.view.outgoing → (r : Record) → ContinuesSent A s.sent s.taken k r
    → IsBeginning (loads N (lane_at N (outgoing_at A.view k).number.0))
    (s.sent (outgoing_at A.view k).number.0 ++ r ∷ [])

-- where no record of its goods continues what it sent, none that the events let be sent does: none that
-- keeps the network's lane a legal beginning and is, on a schedule lane, of an item whose pair is planned
abbrev pub NothingLegalIsLeft : Type 0
NothingLegalIsLeft =
    (N : Table) → IsSized N
    → (plant : ℕ) (s : State) (A : AgentState) → WorksIn N plant s A
    → (k : ℕ) → k < length A.view.outgoing → NothingContinues A s.sent s.taken k
    → (r : Record) → IsDecided N s.planned (lane_at N (outgoing_at A.view k).number.0) (content r)
    → IsBeginning (loads N (lane_at N (outgoing_at A.view k).number.0))
    (s.sent (outgoing_at A.view k).number.0 ++ r ∷ [])
    → ⊥

-- what a plant of a sized network sees is all that its agent needs to begin
abbrev pub ViewsCanBePlanned : Type 0
ViewsCanBePlanned = (N : Table) → IsSized N → (plant : ℕ)
    → IsView (plant_rows N plant) × HasSmallOpenings (plant_rows N plant)
