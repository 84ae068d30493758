use Rattle.std.proofs.Common.{◌-◌, ◌≤◌, length, map, vec_capacity}
use Rattle.mrp_net.specs.Lanes.{lanes}
use Rattle.mrp_run.specs.Ends.{HaveLeft, HaveLeftOf}
use Rattle.mrp_run.proofs.PairedSettled.{AreOfEndsFrom}
use Rattle.mrp_run.proofs.joining.join_all.Given as goal

-- the lanes from the last on are joined, and the ends of the others are there yet
abbrev pub invariant-loop-done : goal.invariant-loop-done
invariant-loop-done g l = record {
  joined : AreOfEndsFrom l.network l.initial.plants (length (lanes l.network)) l.done (map g.L.OfEnds.carried l.all.items);
  room : length (lanes l.network) ≤ vec_capacity l.all;
  left : HaveLeft l.network (length (lanes l.network) - l.done) l.plants;
  left_of : HaveLeftOf l.initial.plants l.plants;
}
