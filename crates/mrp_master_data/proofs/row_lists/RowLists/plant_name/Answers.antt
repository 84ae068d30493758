use Rattle.std.proofs.Common.{rules}
use Rattle.mrp_master_data.proofs.row_lists.RowLists.plant_name.Goals as goal

pub returns : goal.returns
returns c = search rules
