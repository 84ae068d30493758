use Rattle.mrp_netting.proofs.OneLaws.{one-release_sum}
use Rattle.mrp_netting.proofs.laws.orders_are_released.Goals as goal

pub returns : goal.returns
returns c = one-release_sum
