use Rattle.std.proofs.Common.{◌<◌, List, length, subst, sym}
use Rattle.mrp_plant_view.specs.declared.view.PlantPair.{PlantPair}
use Rattle.mrp_agent.proofs.drafting.planning_terms.Goals as goal

pub bounds-pairs-place : goal.bounds-pairs-place
bounds-pairs-place c = subst (λ (z : List PlantPair). c.args.place < length z) (sym c.pairs.ensures) c.requires.place
