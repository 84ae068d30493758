use Rattle.mrp_netting.proofs.DataRows.{all_comes_in}
use Rattle.mrp_netting.proofs.planning_laws.all_comes_in.Goals as goal

pub returns : goal.returns
returns c = all_comes_in
