use Rattle.std.proofs.Common.{◌++◌, ◌∷◌, [], ap, ◌∙◌}
use Rattle.mrp_net.specs.declared.lane.LaneNo.{LaneNo}
use Rattle.mrp_plant_view.specs.declared.view.OutgoingLane.{OutgoingLane}
use Rattle.mrp_plant_view.specs.View.{outgoing_lane}
use Rattle.mrp_plant_view.proofs.OwnNumbers.{made_all, made_pushed, outgoing_are_own}
use Rattle.mrp_plant_view.proofs.Pushing.{is_outgoing}
use Rattle.mrp_plant_view.proofs.viewing.outgoing_lanes.Goals as goal

pub loop-number-init : goal.loop-number-init
loop-number-init c = c.in_ok-lanes.ensures.items

pub loop-number-preserved : goal.loop-number-preserved
loop-number-preserved c =
    let N = c.args.network.now in
    made_pushed (λ (l : LaneNo). outgoing_lane N l.0) c.lanes_from-numbers.result.now c.loop-number.number-index _ c.loop-number.lanes.items _ c.loop-number-test.true
    c.loop-number.invariant
    (c.in_ok-push.ensures.items ∙ ap (λ (l : OutgoingLane). c.loop-number.lanes.items ++ l ∷ []) (is_outgoing N _ c.lane.result _ c.lane.ensures.value c.in_ok-items.ensures))

pub returns : goal.returns
returns c =
    let N = c.args.network.now in
    outgoing_are_own N c.args.plant.0 c.lanes_from-numbers.result.now c.loop-number.lanes.items c.lanes_from-numbers.ensures.value
    (made_all (λ (l : LaneNo). outgoing_lane N l.0) c.lanes_from-numbers.result.now c.loop-number.number-index c.loop-number.lanes.items c.loop-number-test.false
    c.loop-number.invariant)
