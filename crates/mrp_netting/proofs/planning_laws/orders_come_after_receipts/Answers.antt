use Rattle.mrp_netting.proofs.DataRows.{orders_come_after_receipts}
use Rattle.mrp_netting.proofs.planning_laws.orders_come_after_receipts.Goals as goal

pub returns : goal.returns
returns c = orders_come_after_receipts
