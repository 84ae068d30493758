use Rattle.std.proofs.Common.{rules}
use Rattle.mrp_master_data.proofs.tables.Tables.horizon.Goals as goal

pub returns : goal.returns
returns c = search rules
