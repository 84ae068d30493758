use Rattle.std.specs.Prelude.{◌≡◌}
use Rattle.mrp_run_tests.specs.Feeding.{Feeds}
use Rattle.mrp_run_tests.proofs.tests.lanes.send_text.Given as goal

abbrev pub invariant-loop : goal.invariant-loop
invariant-loop g l = record {
  feeds : Feeds l.network l.cursor l.send;
  name : l.send.name ≡ l.fn.send.name;
}
