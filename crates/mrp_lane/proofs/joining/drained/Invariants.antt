use Rattle.std.proofs.Common.{◌≡◌, ℕ, List, length}
use Rattle.crossbeam_queue.specs.Passes.{view, IsPassOf}
use Rattle.mrp_lane.proofs.Joined.{took}
use Rattle.mrp_lane.proofs.joining.drained.Given as goal

-- what was left so far has been taken behind what was taken before, with its stamps
abbrev pub invariant-loop : goal.invariant-loop
invariant-loop g l = record {
  ours : IsPassOf l.mailbox l.pass;
  left_at : List ℕ;
  as_many : length left_at ≡ length l.left.items;
  taken : view l.pass ≡ took (view l.initial.pass) l.left.items left_at;
}
