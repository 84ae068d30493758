use Rattle.mrp_protocol.proofs.Ordering as proved
use Rattle.mrp_protocol.proofs.lane_laws.sent_is_decided.Goals as goal

pub returns : goal.returns
returns c = proved.sent_is_decided
