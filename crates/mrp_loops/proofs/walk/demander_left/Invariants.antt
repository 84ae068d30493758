use Rattle.std.proofs.Common.{◌≡◌, ℕ, ◌<◌, get_or, slice_index}
use Rattle.mrp_net.specs.declared.edge.Edge.{Edge}
use Rattle.mrp_loops.proofs.walk.demander_left.Given as goal

abbrev pub invariant-loop-edge : goal.invariant-loop-edge
invariant-loop-edge l =
    (k : ℕ) (d : Edge) → k < l.edge-index → slice_index l.left (get_or l.edge-items k d).demander.0 ≡ 0
