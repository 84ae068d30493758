use Rattle.mrp_run_tests.specs.Hands.{AreAlone}
use Rattle.mrp_run_tests.proofs.tests.agents.deeds.takes.Given as goal

abbrev pub invariant-loop-deed : goal.invariant-loop-deed
invariant-loop-deed l = AreAlone l.network l.agents
