use Rattle.std.proofs.Common.{map, ap, ◌∙◌}
use Rattle.mrp_net.specs.Lanes.{lane_at, lane_items}
use Rattle.mrp_net.proofs.Growing.{map_pushed}
use Rattle.mrp_plant_view.specs.View.{incoming_item}
use Rattle.mrp_plant_view.proofs.Pushing.{at_index, taken_all}
use Rattle.mrp_plant_view.proofs.viewing.incoming_items.Goals as goal

pub loop-item-init : goal.loop-item-init
loop-item-init c = c.new-items.ensures.items

pub loop-item-preserved : goal.loop-item-preserved
loop-item-preserved c =
    map_pushed (incoming_item c.args.network.now (lane_at c.args.network.now c.args.l.0)) c.lane_items-item-items.result.now c.loop-item.item-index
    (record { 0 = 0 }) _ _ _
    c.loop-item-test.true c.incoming_item.ensures c.loop-item.invariant c.in_ok-push.ensures.items

pub incoming_item-requires-clause-item : goal.incoming_item-requires-clause-item
incoming_item-requires-clause-item c =
    at_index (lane_items c.args.network.now (lane_at c.args.network.now c.args.l.0)) c.lane_items-item-items.result.now c.loop-item.item-index
    (record { 0 = 0 }) c.loop-item-test.true c.lane_items-item-items.ensures.value

pub incoming_item-requires-clause-lane : goal.incoming_item-requires-clause-lane
incoming_item-requires-clause-lane c = c.requires

pub returns : goal.returns
returns c =
    let f = map (incoming_item c.args.network.now (lane_at c.args.network.now c.args.l.0)) in
    c.of.ensures ∙ taken_all f c.lane_items-item-items.result.now c.loop-item.item-index _ c.loop-item-test.false c.loop-item.invariant
    ∙ ap f c.lane_items-item-items.ensures.value
