use Rattle.mrp_netting.proofs.RulesLaws.{lot_for_lot-orders}
use Rattle.mrp_netting.proofs.laws.lot_for_lot_orders_the_need.Goals as goal

pub returns : goal.returns
returns c = lot_for_lot-orders
