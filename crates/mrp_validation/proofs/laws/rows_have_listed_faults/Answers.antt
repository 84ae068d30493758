use Rattle.mrp_validation.proofs.Listed.{listed}
use Rattle.mrp_validation.proofs.laws.rows_have_listed_faults.Goals as goal

pub returns : goal.returns
returns c = listed
