use Rattle.mrp_protocol.proofs.Planned as proved
use Rattle.mrp_protocol.proofs.ready_laws.local_plans_are_the_plan.Goals as goal

pub returns-clause-plant : goal.returns-clause-plant
returns-clause-plant c = proved.local_plans_are_the_plan

pub returns-clause-reached : goal.returns-clause-reached
returns-clause-reached c = proved.reached_plans_are_the_plan
