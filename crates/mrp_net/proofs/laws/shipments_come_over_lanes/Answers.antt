use Rattle.mrp_net.proofs.Arriving as proved
use Rattle.mrp_net.proofs.laws.shipments_come_over_lanes.Goals as goal

pub returns-clause-incoming : goal.returns-clause-incoming
returns-clause-incoming c = proved.incoming_comes_over_lanes

pub returns-clause-items : goal.returns-clause-items
returns-clause-items c = proved.shipments_are_of_items
