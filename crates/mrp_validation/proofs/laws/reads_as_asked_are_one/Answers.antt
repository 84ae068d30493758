use Rattle.mrp_validation.proofs.Asked.{one_way_as}
use Rattle.mrp_validation.proofs.laws.reads_as_asked_are_one.Goals as goal

pub returns : goal.returns
returns c = one_way_as
