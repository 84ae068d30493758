use Rattle.mrp_validation.proofs.Asked.{cut_refused}
use Rattle.mrp_validation.proofs.laws.cut_tables_are_refused.Goals as goal

pub returns : goal.returns
returns c = cut_refused
