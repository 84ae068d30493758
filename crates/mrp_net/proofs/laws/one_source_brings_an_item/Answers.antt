use Rattle.mrp_net.proofs.Covering.{one_source_brings_an_item, lane_items_stand_once}
use Rattle.mrp_net.proofs.laws.one_source_brings_an_item.Goals as goal

pub returns-clause-routes : goal.returns-clause-routes
returns-clause-routes c = one_source_brings_an_item

pub returns-clause-lanes : goal.returns-clause-lanes
returns-clause-lanes c = lane_items_stand_once
