use Rattle.std.proofs.Common.{map, ap, refl, ◌∙◌}
use Rattle.mrp_net.specs.Lanes.{lane_at}
use Rattle.mrp_net.proofs.Growing.{map_pushed}
use Rattle.mrp_plant_view.specs.View.{outgoing_item}
use Rattle.mrp_plant_view.proofs.Pushing.{taken_all}
use Rattle.mrp_plant_view.proofs.viewing.outgoing_items.Goals as goal

pub loop-item-init : goal.loop-item-init
loop-item-init c = c.new-items.ensures

pub loop-item-preserved : goal.loop-item-preserved
loop-item-preserved c =
    map_pushed (outgoing_item c.args.network.now (lane_at c.args.network.now c.args.l.0)) c.lane_items-item-items.result.now c.loop-item.item-index
    (record { 0 = 0 }) _ _ _
    c.loop-item-test.true (rw (c.outgoing_item.ensures, c.sent_on-shipments.ensures) refl) c.loop-item.invariant c.in_ok-push.ensures

pub returns : goal.returns
returns c =
    let f = map (outgoing_item c.args.network.now (lane_at c.args.network.now c.args.l.0)) in
    taken_all f c.lane_items-item-items.result.now c.loop-item.item-index _ c.loop-item-test.false c.loop-item.invariant
    ∙ ap f c.lane_items-item-items.ensures.value
