use Rattle.std.proofs.Common.{◌≡◌, ℕ, ◌+◌, ◌≤◌, ◌<◌, length, slice_index}
use Rattle.mrp_netting.proofs.pieces.add_pieces.Given as goal

-- the periods before this one have their sums, and the others are as they were
abbrev pub invariant-loop-t : goal.invariant-loop-t
invariant-loop-t l = record {
  done : (k : ℕ) → k < l.t → slice_index l.row k ≡ slice_index l.initial.row k + slice_index l.pieces k;
  rest : (k : ℕ) → l.t ≤ k → slice_index l.row k ≡ slice_index l.initial.row k;
  size : length l.row ≡ length l.initial.row;
}
