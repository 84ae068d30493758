use Rattle.std.proofs.Common.{◌≡◌, ◌++◌, map, take}
use Rattle.std.specs.List.{filter}
use Rattle.mrp_net.specs.EdgeLaws.{is_local}
use Rattle.mrp_plant_view.specs.View.{plant_edge}
use Rattle.mrp_plant_view.proofs.viewing.add_edges.Given as goal

abbrev pub invariant-loop-edge : goal.invariant-loop-edge
invariant-loop-edge l = l.edges.items ≡ l.fn.edges.items ++ map plant_edge (filter (is_local l.network) (take l.edge-index l.edge-items))
