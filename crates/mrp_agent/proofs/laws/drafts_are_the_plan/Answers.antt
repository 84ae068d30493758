use Rattle.mrp_agent.proofs.DraftLaws as proved
use Rattle.mrp_agent.proofs.laws.drafts_are_the_plan.Goals as goal

pub returns-clause-within : goal.returns-clause-within
returns-clause-within c = proved.drafts_are_within

pub returns-clause-plan : goal.returns-clause-plan
returns-clause-plan c = proved.drafts_are_the_plan
