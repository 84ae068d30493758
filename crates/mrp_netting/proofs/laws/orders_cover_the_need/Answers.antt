use Rattle.mrp_netting.proofs.OneLaws.{order_after-ge}
use Rattle.mrp_netting.proofs.laws.orders_cover_the_need.Goals as goal

pub returns : goal.returns
returns c = order_after-ge
