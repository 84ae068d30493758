use Rattle.std.specs.Prelude.{◌≡◌}
use Rattle.mrp_run_tests.proofs.tests.lanes.take_text.Given as goal

abbrev pub invariant-loop : goal.invariant-loop
invariant-loop g l = l.take.name ≡ l.fn.take.name
