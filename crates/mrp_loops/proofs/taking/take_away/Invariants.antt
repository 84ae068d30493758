use Rattle.std.proofs.Common.{◌≤◌, ◌-◌, length, take}
use Rattle.mrp_loops.specs.Taking.{IsTaken}
use Rattle.mrp_loops.proofs.taking.take_away.Given as goal

abbrev pub invariant-loop-next : goal.invariant-loop-next
invariant-loop-next l = record {
  within : l.next ≤ length l.state.queue.items;
  taken : IsTaken l.network (take l.next l.state.queue.items) l.state.queue.items l.state.left.items l.state.codes.items;
}

abbrev pub decreases-loop-next : goal.decreases-loop-next
decreases-loop-next l = length l.network.pairs - l.next
