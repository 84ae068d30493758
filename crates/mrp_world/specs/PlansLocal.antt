-- The world: what the plans that its plants keep are made of.
use Rattle.std.specs.Prelude.{ℕ, ◌<◌, length, slice_get, IsSomeAnd}
use Rattle.mrp_plant_view.specs.View.{plant_rows}
use Rattle.mrp_protocol.specs.State.{State}
use Rattle.mrp_protocol.specs.LocalPlans.{IsLocal}
use Rattle.mrp_world.specs.Headline.{Keeping}
use Rattle.mrp_world.specs.World.{WorldState}

-- what each plant keeps as plans is what its own rows, the records that have come to it and the plans of the pairs'
-- parents give
abbrev pub PlansAreLocal : {A : Type 0} → Keeping A → WorldState A → State → Type 0
PlansAreLocal kept w s =
    (p : ℕ) → p < length w.network.plants
    → IsSomeAnd (slice_get w.plants p) (λ plant. IsLocal (plant_rows w.network p) s.taken s.planned (kept plant))
