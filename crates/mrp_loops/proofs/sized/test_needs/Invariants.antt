use Rattle.mrp_loops.specs.Order.{IsSolved}
use Rattle.mrp_loops.proofs.sized.test_needs.Given as goal

abbrev pub invariant-loop-x : goal.invariant-loop-x
invariant-loop-x l = IsSolved l.network l.order l.x-index l.needs.items
