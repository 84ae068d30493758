use Rattle.std.proofs.Common.{◌≡◌}
use Rattle.mrp_run_tests.proofs.tests.firms.random.keeps_each.Given as goal

abbrev pub invariant-loop : goal.invariant-loop
invariant-loop l = l.firm.network ≡ l.initial.firm.network
