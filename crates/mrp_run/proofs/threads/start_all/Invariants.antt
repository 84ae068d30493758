use Rattle.std.proofs.Common.{◌≡◌, ◌++◌, ◌≤◌, vec_capacity}
use Rattle.std.specs.Vec.Iter.{into_iter_items}
use Rattle.mrp_run.specs.Joined.{AreNumberedThreads, started_plants}
use Rattle.mrp_run.proofs.threads.start_all.Given as goal

-- a thread was started for each of the plants so far
abbrev pub invariant-loop-plant : goal.invariant-loop-plant
invariant-loop-plant g l = record {
  whole : l.yielded ++ into_iter_items l.plant-iterator ≡ l.fn.plants.items;
  started_so_far : started_plants l.threads.items ≡ l.yielded;
  numbered : AreNumberedThreads l.fn.turns l.threads.items;
  room : vec_capacity l.fn.threads ≤ vec_capacity l.threads;
}
