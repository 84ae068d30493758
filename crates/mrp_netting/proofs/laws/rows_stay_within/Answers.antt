use Rattle.mrp_netting.proofs.OneLaws.{one-within}
use Rattle.mrp_netting.proofs.laws.rows_stay_within.Goals as goal

pub returns : goal.returns
returns c = one-within
