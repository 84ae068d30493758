-- The agent: the lanes that it sees are its plant's own.
use Rattle.std.proofs.Common.{ℕ, length}
use Rattle.std.specs.List.{All, filter}
use Rattle.std.proofs.lemmas.List.Elements.{All-map}
use Rattle.mrp_master_data.specs.Table.{Table}
use Rattle.mrp_net.specs.Lanes.{lanes, lane_at}
use Rattle.mrp_plant_view.specs.declared.view.IncomingLane.{IncomingLane}
use Rattle.mrp_plant_view.specs.declared.view.OutgoingLane.{OutgoingLane}
use Rattle.mrp_plant_view.specs.View.{comes_to, goes_from, lane_numbers, incoming_lane, incoming_lanes, outgoing_lane, outgoing_lanes}
use Rattle.mrp_plant_view.proofs.Seeing.{owned}
use Rattle.mrp_agent.specs.OwnPart.{IsIn, IsOut}

pub outgoing_are_out : (N : Table) (p : ℕ) → All (λ lane. IsOut N p lane.number.0) (outgoing_lanes N p)
outgoing_are_out N p =
    All-map (λ (lane : OutgoingLane). IsOut N p lane.number.0) (outgoing_lane N) (filter (goes_from N p) (lane_numbers N))
    (λ k d within. let own = owned (length (lanes N)) (λ l. (lane_at N l).sender.0) p k d within in record { lane = own.0; plant = own.1 })

pub incoming_are_in : (N : Table) (p : ℕ) → All (λ lane. IsIn N p lane.number.0) (incoming_lanes N p)
incoming_are_in N p =
    All-map (λ (lane : IncomingLane). IsIn N p lane.number.0) (incoming_lane N) (filter (comes_to N p) (lane_numbers N))
    (λ k d within. let own = owned (length (lanes N)) (λ l. (lane_at N l).receiver.0) p k d within in record { lane = own.0; plant = own.1 })
