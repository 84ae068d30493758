use Rattle.std.proofs.Common.{ℕ, ◌<◌, ◌≤◌}
use Rattle.mrp_qty.specs.declared.quantity.TheConstants.{MOST}
use Rattle.mrp_net.specs.Sums.{supply}
use Rattle.mrp_loops.proofs.sized.first_oversupplied.Given as goal

abbrev pub invariant-loop-x : goal.invariant-loop-x
invariant-loop-x l = (y : ℕ) → y < l.x → supply l.network y ≤ MOST
