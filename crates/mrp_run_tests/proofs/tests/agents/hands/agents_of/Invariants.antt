use Rattle.std.proofs.Common.{◌≡◌, ℕ, ◌<◌, length, get_or}
use Rattle.mrp_protocol.specs.State.{opening_state}
use Rattle.mrp_agent.specs.State.{AgentState}
use Rattle.mrp_agent.specs.InNetwork.{ShowsAgent}
use Rattle.mrp_run_tests.proofs.tests.agents.hands.agents_of.Given as goal

-- each agent so far shows the opening state
abbrev pub invariant-loop-p : goal.invariant-loop-p
invariant-loop-p l = record {
  size : length l.agents.items ≡ l.p;
  each : (k : ℕ) (d : AgentState) → k < length l.agents.items → ShowsAgent l.network k opening_state (get_or l.agents.items k d);
}
