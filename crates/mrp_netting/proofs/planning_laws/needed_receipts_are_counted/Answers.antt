use Rattle.mrp_netting.proofs.Needless.{needed_receipts_are_counted}
use Rattle.mrp_netting.proofs.planning_laws.needed_receipts_are_counted.Goals as goal

pub returns : goal.returns
returns c = needed_receipts_are_counted
