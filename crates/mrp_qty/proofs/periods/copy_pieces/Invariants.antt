use Rattle.std.proofs.Common.{◌≡◌, ℕ, ◌<◌, slice_index}
use Rattle.mrp_qty.proofs.periods.copy_pieces.Given as goal

-- the periods before this one are written
abbrev pub invariant-loop-t : goal.invariant-loop-t
invariant-loop-t l = (k : ℕ) → k < l.t → slice_index l.amounts k ≡ slice_index l.pieces k
