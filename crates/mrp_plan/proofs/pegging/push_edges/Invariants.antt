use Rattle.std.proofs.Common.{◌≡◌, ◌++◌, map, take}
use Rattle.std.specs.List.{filter}
use Rattle.mrp_plan.specs.Peg.{is_asked, edge_term}
use Rattle.mrp_plan.proofs.pegging.push_edges.Given as goal

-- the terms of the edges passed so far
abbrev pub invariant-loop-edge : goal.invariant-loop-edge
invariant-loop-edge l = l.terms.items ≡ l.initial.terms.items ++ filter is_asked (map (edge_term l.network l.plan l.t) (take l.edge-index l.edges))
