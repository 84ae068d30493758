use Rattle.mrp_net.proofs.Sooner.{plans_are_of_all_receipts}
use Rattle.mrp_net.proofs.laws.plans_are_of_all_receipts.Goals as goal

pub returns : goal.returns
returns c = plans_are_of_all_receipts
