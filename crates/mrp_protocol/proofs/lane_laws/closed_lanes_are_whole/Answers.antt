use Rattle.mrp_protocol.proofs.Ordering as proved
use Rattle.mrp_protocol.proofs.lane_laws.closed_lanes_are_whole.Goals as goal

pub returns : goal.returns
returns c = proved.closed_lanes_are_whole
