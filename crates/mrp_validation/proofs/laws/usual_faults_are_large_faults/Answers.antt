use Rattle.std.proofs.Common.{Err}
use Rattle.mrp_validation.proofs.LargeReading.{read_is_large}
use Rattle.mrp_validation.proofs.laws.usual_faults_are_large_faults.Goals as goal

pub returns : goal.returns
returns c = λ rows e. read_is_large rows (Err e)
