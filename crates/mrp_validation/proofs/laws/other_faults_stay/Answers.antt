use Rattle.mrp_validation.proofs.Asked.{other_stays}
use Rattle.mrp_validation.proofs.laws.other_faults_stay.Goals as goal

pub returns : goal.returns
returns c = other_stays
