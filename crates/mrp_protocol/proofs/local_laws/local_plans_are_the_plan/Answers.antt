use Rattle.mrp_protocol.proofs.LocalPlanned as proved
use Rattle.mrp_protocol.proofs.local_laws.local_plans_are_the_plan.Goals as goal

pub returns-clause-planned : goal.returns-clause-planned
returns-clause-planned c = proved.local_plans_are_the_plan

pub returns-clause-drafts : goal.returns-clause-drafts
returns-clause-drafts c = proved.drafts_are_the_plan
