use Rattle.mrp_validation.proofs.BackTable.{read_from_its_rows}
use Rattle.mrp_validation.proofs.laws.a_table_is_read_from_its_own_rows_alone.Goals as goal

pub returns : goal.returns
returns c = λ limits. read_from_its_rows limits
