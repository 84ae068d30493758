use Rattle.mrp_reach.proofs.Demanded.{IsFoundTo}
use Rattle.mrp_reach.proofs.whole.whole_periods.Given as goal

-- the pairs before this one in the order are found
abbrev pub invariant-loop-x : goal.invariant-loop-x
invariant-loop-x l = IsFoundTo l.net.network l.x-items l.x-index l.wholes.items
