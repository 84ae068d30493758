use Rattle.mrp_world.proofs.AgentReads.{given_planned, given_plan, none_planned}
use Rattle.mrp_world.proofs.agents.AgentPlant.planned.Goals as goal

pub returns-clause-planned : goal.returns-clause-planned
returns-clause-planned c = given_planned c.args.self.now c.args.x c.planned.result c.planned.ensures.there

pub returns-clause-plan : goal.returns-clause-plan
returns-clause-plan c = given_plan (λ plan. plan.now) c.args.self.now c.args.x c.planned.result c.planned.ensures.there c.planned.ensures.plan

pub returns-clause-none : goal.returns-clause-none
returns-clause-none c = none_planned c.args.self.now c.args.x c.planned.result c.planned.ensures.there
