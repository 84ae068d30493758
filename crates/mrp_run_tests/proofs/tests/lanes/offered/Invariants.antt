use Rattle.std.specs.Prelude.{◌≡◌}
use Rattle.mrp_run_tests.specs.Feeding.{Feeds}
use Rattle.mrp_run_tests.proofs.tests.lanes.offered.Given as goal

abbrev pub invariant-loop : goal.invariant-loop
invariant-loop g l = record {
  feeds : Feeds l.network l.cursor l.end;
  name : l.end.name ≡ l.fn.end.name;
}
