use Rattle.std.proofs.Common.{◌≡◌, take}
use Rattle.std.specs.List.{flat_map}
use Rattle.mrp_plant_view.specs.View.{edges_to}
use Rattle.mrp_plant_view.proofs.viewing.plant_edges.Given as goal

abbrev pub invariant-loop-pair : goal.invariant-loop-pair
invariant-loop-pair l = l.edges.items ≡ flat_map (λ p. edges_to l.network p.number.0) (take l.pair-index l.pairs)
