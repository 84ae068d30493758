use Rattle.mrp_validation.proofs.Accept.{what_is_read}
use Rattle.mrp_validation.proofs.laws.what_is_read_is_a_table.Goals as goal

pub returns : goal.returns
returns c = λ limits. what_is_read limits
