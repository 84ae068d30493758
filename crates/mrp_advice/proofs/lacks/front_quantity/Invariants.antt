use Rattle.std.proofs.Common.{◌≡◌, sum, take}
use Rattle.mrp_advice.proofs.lacks.front_quantity.Given as goal

-- the sum so far
abbrev pub invariant-periods : goal.invariant-periods
invariant-periods l = l.total ≡ sum (take l.t l.row)
