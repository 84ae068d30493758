use Rattle.std.proofs.Common.{◌≡◌}
use Rattle.mrp_run_tests.proofs.tests.firms.events.takes.Given as goal

abbrev pub invariant-loop-each : goal.invariant-loop-each
invariant-loop-each l = l.firm.network ≡ l.initial.firm.network
