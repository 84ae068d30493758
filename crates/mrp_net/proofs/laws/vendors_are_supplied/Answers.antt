use Rattle.mrp_net.proofs.Vendors as proved
use Rattle.mrp_net.proofs.laws.vendors_are_supplied.Goals as goal

pub returns : goal.returns
returns c = proved.vendors_are_supplied
