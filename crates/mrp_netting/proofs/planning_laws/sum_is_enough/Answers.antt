use Rattle.mrp_netting.proofs.TogetherLaws.{sum_is_enough}
use Rattle.mrp_netting.proofs.planning_laws.sum_is_enough.Goals as goal

pub returns : goal.returns
returns c = sum_is_enough
