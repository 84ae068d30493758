use Rattle.mrp_net.proofs.Vendors as proved
use Rattle.mrp_net.proofs.laws.days_change_no_plan.Goals as goal

pub returns : goal.returns
returns c = proved.days_change_no_plan
