use Rattle.std.proofs.Common.{◌≡◌, map, take}
use Rattle.mrp_agent.specs.Kept.{parent_edge}
use Rattle.mrp_agent.proofs.edges.parent_edges.Given as goal

abbrev pub invariant-loop-edge : goal.invariant-loop-edge
invariant-loop-edge l = l.parents.items ≡ map (parent_edge l.view) (take l.edge-index l.edges)
