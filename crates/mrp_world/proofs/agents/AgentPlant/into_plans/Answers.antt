use Rattle.std.proofs.Common.{◌∙◌}
use Rattle.mrp_world.proofs.AgentGives.{gives}
use Rattle.mrp_world.proofs.agents.AgentPlant.into_plans.Goals as goal

pub returns : goal.returns
returns c = λ m p at done. c.into_plans.ensures.plans ∙ gives c.args.self m p at done c.into_plans.ensures.all
