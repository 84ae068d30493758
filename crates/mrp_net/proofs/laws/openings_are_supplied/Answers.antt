use Rattle.mrp_net.proofs.Ends as proved
use Rattle.mrp_net.proofs.laws.openings_are_supplied.Goals as goal

pub returns : goal.returns
returns c = proved.openings_are_supplied
