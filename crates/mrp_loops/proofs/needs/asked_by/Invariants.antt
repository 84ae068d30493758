use Rattle.std.proofs.Common.{◌≡◌, ◌*◌, ◌^◌, ◌-◌, min, take, sum_by, slice_index}
use Rattle.mrp_net.specs.declared.edge.Edge.{Edge}
use Rattle.mrp_net.specs.Edges.{edge_most}
use Rattle.mrp_loops.proofs.needs.asked_by.Given as goal

abbrev pub invariant-loop-edge : goal.invariant-loop-edge
invariant-loop-edge l =
    l.asked ≡ min (sum_by (λ (e : Edge). edge_most l.network e * slice_index l.needs e.demander.0) (take l.edge-index l.edges)) (2 ^ 64 - 1)
