use Rattle.std.proofs.Common.{◌≡◌, replicate}
use Rattle.mrp_loops.proofs.Passing.{IsBegun}
use Rattle.mrp_loops.proofs.taking.begin.Given as goal

abbrev pub invariant-loop-x : goal.invariant-loop-x
invariant-loop-x l = record {
  begun : IsBegun l.network l.x l.queue.items l.left.items;
  zeros : l.codes.items ≡ replicate l.pairs 0;
}
