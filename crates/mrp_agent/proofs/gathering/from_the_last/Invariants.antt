use Rattle.std.proofs.Common.{◌≡◌, ◌-◌, ◌++◌, length, take, reverse}
use Rattle.mrp_net.specs.Plan.{plan_of}
use Rattle.mrp_agent.specs.Given.{HaveGiven}
use Rattle.mrp_agent.proofs.gathering.from_the_last.Given as goal

-- the plans so far, from the last on
abbrev pub invariant-loop-done : goal.invariant-loop-done
invariant-loop-done l = record {
  given : HaveGiven l.network l.given (length l.network.pairs - l.done);
  plans : l.plans.items ++ reverse (take (length l.network.pairs - l.done) (plan_of l.network)) ≡ reverse (plan_of l.network);
}
