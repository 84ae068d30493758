use Rattle.std.specs.Prelude.{◌≡◌}
use Rattle.mrp_agent.specs.Sending.{next_called}
use Rattle.mrp_agent.proofs.sending.next_call.Given as goal

abbrev pub invariant-loop-period : goal.invariant-loop-period
invariant-loop-period l = next_called l.release l.call l.mark ≡ next_called l.release l.call l.period
