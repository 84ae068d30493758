use Rattle.mrp_validation.proofs.OneWay.{reads_one_way}
use Rattle.mrp_validation.proofs.laws.reads_are_one.Goals as goal

pub returns : goal.returns
returns c = λ limits. reads_one_way limits
