use Rattle.mrp_netting.proofs.Needless.{needless_orders_change_nothing}
use Rattle.mrp_netting.proofs.planning_laws.needless_orders_change_nothing.Goals as goal

pub returns : goal.returns
returns c = needless_orders_change_nothing
