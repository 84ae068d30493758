use Rattle.mrp_validation.proofs.Listed.{rise}
use Rattle.mrp_validation.proofs.laws.faults_rise.Goals as goal

pub returns : goal.returns
returns c = rise
