use Rattle.std.proofs.Common.{◌<◌, length, arith, ◌∙◌}
use Rattle.mrp_net.specs.declared.lane.LaneNo.{LaneNo}
use Rattle.mrp_net.specs.Lanes.{lanes}
use Rattle.mrp_net.specs.Plants.{lane_numbers, sender_of}
use Rattle.mrp_net.proofs.OfPlants.{lanes_have_senders, lanes_are_there, group_none, group_of, sent_read}
use Rattle.mrp_net.proofs.network.Network.lanes_from.Goals as goal

pub returns-then-plant-plants-clause-value : goal.returns-then-plant-plants-clause-value
returns-then-plant-plants-clause-value c =
    let N = c.args.self.now in
    group_none (sender_of N) (length N.plants) c.args.plant.0 (lane_numbers (length (lanes N))) (lanes_have_senders N) (omega (arith, c.if-plant-plants.true, c.plants.ensures))

pub get-requires-clause-rises : goal.get-requires-clause-rises
get-requires-clause-rises c =
    let are = sent_read _ c.args.self.now c.self.inside.plants.sent.rows.items c.self.inside.plants.sent.starts.items c.args.plant.0
    c.self.view_is c.self.invariant.plants.sent (omega (arith, c.if-plant-plants.false, c.plants.ensures)) in
    are.rises

pub get-requires-clause-within : goal.get-requires-clause-within
get-requires-clause-within c =
    let are = sent_read _ c.args.self.now c.self.inside.plants.sent.rows.items c.self.inside.plants.sent.starts.items c.args.plant.0
    c.self.view_is c.self.invariant.plants.sent (omega (arith, c.if-plant-plants.false, c.plants.ensures)) in
    are.within

pub returns-clause-value : goal.returns-clause-value
returns-clause-value c =
    let are = sent_read _ c.args.self.now c.self.inside.plants.sent.rows.items c.self.inside.plants.sent.starts.items c.args.plant.0
    c.self.view_is c.self.invariant.plants.sent (omega (arith, c.if-plant-plants.false, c.plants.ensures)) in
    c.get.ensures ∙ are.value

pub returns-clause-lanes : goal.returns-clause-lanes
returns-clause-lanes c =
    let N = c.args.self.now in
    let are = sent_read _ c.args.self.now c.self.inside.plants.sent.rows.items c.self.inside.plants.sent.starts.items c.args.plant.0
    c.self.view_is c.self.invariant.plants.sent (omega (arith, c.if-plant-plants.false, c.plants.ensures)) in
    group_of (λ (x : LaneNo). x.0 < length (lanes N)) (sender_of N) c.args.plant.0 (lane_numbers (length (lanes N))) c.get.result.now (lanes_are_there (length (lanes N))) (c.get.ensures ∙ are.value)
