use Rattle.mrp_agent.proofs.Network as proved
use Rattle.mrp_agent.proofs.laws.planned_pairs_have_the_plan.Goals as goal

pub returns : goal.returns
returns c = proved.planned_pairs_have_the_plan
