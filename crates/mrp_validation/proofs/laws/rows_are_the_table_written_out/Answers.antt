use Rattle.mrp_validation.proofs.WrittenTable.{written_out}
use Rattle.mrp_validation.proofs.laws.rows_are_the_table_written_out.Goals as goal

pub returns : goal.returns
returns c = λ limits. written_out limits
