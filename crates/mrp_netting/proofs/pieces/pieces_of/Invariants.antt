use Rattle.std.proofs.Common.{◌≡◌, take, length}
use Rattle.mrp_netting.proofs.pieces.pieces_of.Given as goal

-- the periods before this one are in their places
abbrev pub invariant-loop-t : goal.invariant-loop-t
invariant-loop-t l = record {
  done : take l.t l.pieces ≡ take l.t l.row;
  size : length l.pieces ≡ 520;
}
