use Rattle.mrp_validation.proofs.BackTable.{written_is_read}
use Rattle.mrp_validation.proofs.laws.tables_written_out_are_read.Goals as goal

pub returns : goal.returns
returns c = written_is_read
