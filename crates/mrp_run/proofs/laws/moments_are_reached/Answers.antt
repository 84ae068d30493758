use Rattle.mrp_run.proofs.Moments as proved
use Rattle.mrp_run.proofs.laws.moments_are_reached.Goals as goal

pub returns : goal.returns
returns c = proved.moments_are_reached
