use Rattle.mrp_readiness.proofs.Counting as proved
use Rattle.mrp_readiness.proofs.readiness_laws.components_wait.Goals as goal

pub returns : goal.returns
returns c = proved.components_wait
