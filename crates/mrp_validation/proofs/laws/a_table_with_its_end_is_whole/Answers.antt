use Rattle.mrp_validation.proofs.CutEnd.{whole_table}
use Rattle.mrp_validation.proofs.laws.a_table_with_its_end_is_whole.Goals as goal

pub returns : goal.returns
returns c = λ limits. whole_table limits
