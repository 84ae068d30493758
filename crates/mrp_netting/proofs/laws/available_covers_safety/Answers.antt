use Rattle.mrp_netting.proofs.OneLaws.{one-available-ge}
use Rattle.mrp_netting.proofs.laws.available_covers_safety.Goals as goal

pub returns : goal.returns
returns c = one-available-ge
