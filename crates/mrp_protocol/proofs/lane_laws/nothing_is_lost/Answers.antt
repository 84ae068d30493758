use Rattle.mrp_protocol.proofs.Ordering as proved
use Rattle.mrp_protocol.proofs.lane_laws.nothing_is_lost.Goals as goal

pub returns : goal.returns
returns c = proved.nothing_is_lost
