use Rattle.mrp_net.proofs.Twos as proved
use Rattle.mrp_net.proofs.laws.sources_have_lanes.Goals as goal

pub returns : goal.returns
returns c = proved.sources_have_lanes
