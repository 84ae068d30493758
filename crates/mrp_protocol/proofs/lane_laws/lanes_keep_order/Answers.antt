use Rattle.mrp_protocol.proofs.Ordering as proved
use Rattle.mrp_protocol.proofs.lane_laws.lanes_keep_order.Goals as goal

pub returns : goal.returns
returns c = proved.lanes_keep_order
