use Rattle.std.proofs.Common.{◌≡◌, ◌++◌, ◌≤◌, length, vec_len, vec_capacity}
use Rattle.std.specs.List.{AllZip}
use Rattle.std.specs.Vec.Iter.{into_iter_items}
use Rattle.mrp_run.specs.Joined.{HasKept}
use Rattle.mrp_run.proofs.threads.join_all.Given as goal

-- the threads so far have brought back what they were started for
abbrev pub invariant-loop-thread : goal.invariant-loop-thread
invariant-loop-thread g l = record {
  whole : l.yielded ++ into_iter_items l.thread-iterator ≡ l.fn.threads.items;
  count : vec_len l.backs ≡ length l.yielded;
  room : vec_capacity l.fn.backs ≤ vec_capacity l.backs;
  kept : AllZip (HasKept g.G.Gate.turn_open g.S.StopRule.holds) l.yielded l.backs.items;
}
