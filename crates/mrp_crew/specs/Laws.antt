-- A crew of workers: the law of planning by it, in a network.
use Rattle.std.specs.Prelude.{ℕ, List}
use Rattle.mrp_master_data.specs.declared.numbers.PairNo.{PairNo}
use Rattle.mrp_master_data.specs.Table.{Table}
use Rattle.mrp_protocol.specs.State.{State}
use Rattle.mrp_agent.specs.InNetwork.{WorksIn}
use Rattle.mrp_agent.specs.State.{AgentState}
use Rattle.mrp_crew.specs.Planning.{after_planning, PlansAll}

-- an agent of a plant of a network is still one once it has planned some pairs
abbrev pub PlanningKeepsAtWork : Type 0
PlanningKeepsAtWork =
    (N : Table) (plant : ℕ) (s : State) (A B : AgentState) (xs : List PairNo)
    → WorksIn N plant s A → PlansAll A B xs → WorksIn N plant (after_planning s xs) B
