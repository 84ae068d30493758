use Rattle.std.proofs.Common.{rules}
use Rattle.mrp_agent.proofs.agent.Agent.into_plans.Goals as goal

pub returns-clause-plans : goal.returns-clause-plans
returns-clause-plans c = search rules
