use Rattle.mrp_api.proofs.OneReport.{one_table}
use Rattle.mrp_api.proofs.laws.bytes_make_one_table.Goals as goal

pub returns : goal.returns
returns c = one_table
