use Rattle.std.proofs.Common.{◌≡◌, sum, take}
use Rattle.mrp_netting.proofs.pieces.front_quantity.Given as goal

-- the sum so far
abbrev pub invariant-loop-t : goal.invariant-loop-t
invariant-loop-t l = l.total ≡ sum (take l.t l.row)
