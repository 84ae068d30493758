use Rattle.mrp_net.proofs.Ends as proved
use Rattle.mrp_net.proofs.laws.parts_are_within.Goals as goal

pub returns : goal.returns
returns c = proved.parts_are_within
