-- The world: the plans that its plants give once it has been driven to its end.
use Rattle.std.specs.Prelude.{◌≡◌, ℕ, true, List, length}
use Rattle.mrp_netting.specs.PlanRows.{PlanRows}
use Rattle.mrp_master_data.specs.Table.{Table}
use Rattle.mrp_agent.specs.Given.{plans_below}
use Rattle.mrp_world.specs.Moments.{Moment}
use Rattle.mrp_agent.specs.OwnPart.{IsOwn}

-- by the plan of the network the plans of all pairs of a plant, in table order
abbrev pub own_plans : Table → ℕ → List PlanRows
own_plans N p = plans_below N p (length N.pairs)

-- the plant has planned all its pairs
abbrev pub HasPlannedAll : Moment → ℕ → Type 0
HasPlannedAll m p = (x : ℕ) → IsOwn m.network p x → m.state.planned x ≡ true
