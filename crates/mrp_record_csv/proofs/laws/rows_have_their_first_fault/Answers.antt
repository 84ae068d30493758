use Rattle.mrp_record_csv.proofs.First.{rows_have_their_first_fault}
use Rattle.mrp_record_csv.proofs.laws.rows_have_their_first_fault.Goals as goal

pub returns : goal.returns
returns c = rows_have_their_first_fault
