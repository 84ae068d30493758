use Rattle.mrp_validation.proofs.First.{has_first_fault}
use Rattle.mrp_validation.proofs.laws.rows_have_their_first_fault.Goals as goal

pub returns : goal.returns
returns c = has_first_fault
