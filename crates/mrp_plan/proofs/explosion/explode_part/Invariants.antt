use Rattle.std.proofs.Common.{◌≡◌, ℕ, ◌+◌, ◌<◌, ◌≤◌, length, slice_index}
use Rattle.mrp_net.specs.Edges.{edge_need}
use Rattle.mrp_plan.proofs.explosion.explode_part.Given as goal

-- the periods before this one have what the edge asks, and the others are as they were
abbrev pub invariant-loop-t : goal.invariant-loop-t
invariant-loop-t l = record {
  size : length l.gross ≡ length l.initial.gross;
  done : (k : ℕ) → k < l.t → slice_index l.gross k ≡ slice_index l.initial.gross k + edge_need l.network l.edge k (slice_index l.release k);
  rest : (k : ℕ) → l.t ≤ k → slice_index l.gross k ≡ slice_index l.initial.gross k;
}
