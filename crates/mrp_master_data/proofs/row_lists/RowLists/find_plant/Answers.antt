use Rattle.std.proofs.Common.{rules}
use Rattle.mrp_master_data.proofs.row_lists.RowLists.find_plant.Goals as goal

pub returns-clause-place : goal.returns-clause-place
returns-clause-place c = search rules

pub returns-clause-within : goal.returns-clause-within
returns-clause-within c = search rules
