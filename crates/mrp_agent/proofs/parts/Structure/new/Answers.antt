use Rattle.std.proofs.Common.{List, sym, subst}
use Rattle.std.specs.List.{All}
use Rattle.mrp_plant_view.specs.declared.view.PlantEdge.{PlantEdge}
use Rattle.mrp_plant_view.specs.Seen.{IsPlantEdge}
use Rattle.mrp_agent.proofs.parts.Structure.new.Goals as goal

pub parent_edges-requires-clause-edges : goal.parent_edges-requires-clause-edges
parent_edges-requires-clause-edges c = subst (λ (z : List PlantEdge). All (IsPlantEdge c.args.view.now) z) (sym c.edges.ensures) c.requires.seen.edges
