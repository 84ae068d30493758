use Rattle.mrp_validation.proofs.Asked.{whole_end}
use Rattle.mrp_validation.proofs.laws.whole_tables_end.Goals as goal

pub returns : goal.returns
returns c = whole_end
