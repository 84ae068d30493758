use Rattle.std.proofs.Common.{rules}
use Rattle.mrp_master_data.proofs.rows.PairRow.params.Goals as goal

pub returns : goal.returns
returns c = search rules
