use Rattle.mrp_netting.proofs.ReceiptLaws.{are_counted}
use Rattle.mrp_netting.proofs.planning_laws.receipts_are_counted.Goals as goal

pub returns : goal.returns
returns c = are_counted
