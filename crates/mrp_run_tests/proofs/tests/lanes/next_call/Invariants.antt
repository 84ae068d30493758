use Rattle.std.specs.Prelude.{◌≡◌}
use Rattle.mrp_net.specs.Lanes.{lane_at}
use Rattle.mrp_run_tests.specs.Feeding.{calls_from}
use Rattle.mrp_run_tests.proofs.tests.lanes.next_call.Given as goal

-- nothing is called for before this period
abbrev pub invariant-loop-period : goal.invariant-loop-period
invariant-loop-period l = calls_from l.network (lane_at l.network l.l.0) l.item l.mark ≡ calls_from l.network (lane_at l.network l.l.0) l.item l.period
