use Rattle.mrp_net.proofs.Ends as proved
use Rattle.mrp_net.proofs.laws.lanes_join_two_plants.Goals as goal

pub returns : goal.returns
returns c = proved.lanes_join_two_plants
