use Rattle.mrp_netting.proofs.DataRows.{all_rows_stay_within}
use Rattle.mrp_netting.proofs.planning_laws.all_rows_stay_within.Goals as goal

pub returns : goal.returns
returns c = all_rows_stay_within
