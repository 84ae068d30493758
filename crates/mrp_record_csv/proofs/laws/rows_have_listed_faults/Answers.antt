use Rattle.mrp_record_csv.proofs.Listed.{listed}
use Rattle.mrp_record_csv.proofs.laws.rows_have_listed_faults.Goals as goal

pub returns : goal.returns
returns c = listed
