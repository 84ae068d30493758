use Rattle.std.proofs.Common.{◌≡◌, ℕ, [], ◌++◌, get_or, ap, ◌∙◌}
use Rattle.mrp_plant_view.specs.declared.view.OutgoingLane.{OutgoingLane}
use Rattle.mrp_agent.specs.Queues.{lane_queues, lane_queues_at}
use Rattle.mrp_agent.specs.State.{no_outgoing}
use Rattle.mrp_agent.proofs.Calls.{read_is}
use Rattle.mrp_agent.proofs.Queueing.{range_more}
use Rattle.mrp_agent.proofs.queues.queue_places.Goals as goal

pub loop-lane-preserved : goal.loop-lane-preserved
loop-lane-preserved c =
    let k : ℕ = c.loop-lane.lane in
    let lane : c.index-lanes-lane.result ≡ get_or c.args.lanes.now k no_outgoing =
    read_is c.args.lanes.now k c.index-lanes-lane.result no_outgoing c.index-lanes-lane.is c.loop-lane-test.true in
    range_more (lane_queues_at c.args.items.now c.args.lanes.now) k [] c.loop-lane.places.items _ c.loop-lane.invariant
    (c.in_ok-add_lane.ensures ∙ ap (λ (z : OutgoingLane). c.loop-lane.places.items ++ lane_queues z.kind c.args.items.now k z.items) lane)
