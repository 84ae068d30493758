use Rattle.mrp_agent.proofs.Viewing.{views_can_be_planned}
use Rattle.mrp_agent.proofs.laws.what_a_plant_sees_is_enough.Goals as goal

pub returns : goal.returns
returns c = views_can_be_planned
