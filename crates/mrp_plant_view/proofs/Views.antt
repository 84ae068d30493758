-- The view of one plant: what each one of an accepted table says.
use Rattle.std.proofs.Common.{◌∙◌, arith}
use Rattle.std.specs.List.{filter}
use Rattle.std.proofs.lemmas.List.{length-map, map-id}
use Rattle.mrp_plant_view.specs.declared.view.IncomingLane.{IncomingLane}
use Rattle.mrp_plant_view.specs.declared.view.OutgoingLane.{OutgoingLane}
use Rattle.mrp_net.specs.FirmOrders.{firms_of}
use Rattle.mrp_net.specs.Sums.{demand, received_when_due, received_sooner}
use Rattle.mrp_net.specs.Usages.{usages_to}
use Rattle.mrp_plant_view.proofs.Ranges.{firms_are, policies_are, usages_are, usages_rise}
use Rattle.mrp_plant_view.specs.View.{comes_to, goes_from, lane_numbers, incoming_lane, outgoing_lane, plant_pairs}
use Rattle.mrp_plant_view.specs.Laws.{ViewsSayEnough, ViewsHaveLanesIn, ViewsHaveLanesOut}
use Rattle.mrp_plant_view.proofs.OwnEdges.{numbers_rise, by_component}
use Rattle.mrp_net.proofs.Routing.{map-map}
use Rattle.mrp_plant_view.proofs.Seeing.{pairs_are_few, numbers_stand_once, items_stand_once, pairs_are_planned, edges_are_own, amounts_length}
use Rattle.mrp_plant_view.proofs.SeeingLanes.{incoming_are, incoming_stand_once, outgoing_are, outgoing_stand_once, despatches_are, schedules_are}
use Rattle.mrp_master_data.proofs.LimitFacts.{any_limited}

pub views_say_enough : ViewsSayEnough
views_say_enough N is plant = record {
  some_periods = is.read.limits.some_periods;
  periods = (any_limited N is.read.limits).periods;
  few_pairs = omega (arith, pairs_are_few N plant, (any_limited N is.read.limits).pairs);
  numbers_rise = numbers_rise N plant;
  numbers_once = numbers_stand_once N plant;
  items_once = λ item. items_stand_once N plant item is;
  pairs = pairs_are_planned N plant is;
  policies = policies_are N plant is;
  edges = edges_are_own N plant is;
  by_component = by_component N plant;
  demands = amounts_length N (demand N) plant;
  receipts = amounts_length N (received_when_due N) plant;
  firms_by_pair = length-map (plant_pairs N plant) (λ p. firms_of N p.number.0);
  firms = firms_are N plant is;
  sooner_by_pair = length-map (plant_pairs N plant) (λ p. received_sooner N p.number.0);
  usages_by_pair = length-map (plant_pairs N plant) (λ p. usages_to N p.number.0);
  usages = usages_are N plant is;
  usages_rise = usages_rise N plant;
  incoming_once = incoming_stand_once N plant;
  incoming = incoming_are N plant is;
  outgoing_once = outgoing_stand_once N plant;
  outgoing = outgoing_are N plant is;
  despatches = despatches_are N plant;
  schedules = schedules_are N plant is;
}

pub views_have_lanes_in : ViewsHaveLanesIn
views_have_lanes_in N plant =
    map-map (λ (lane : IncomingLane). lane.number.0) (incoming_lane N) (filter (comes_to N plant) (lane_numbers N))
    ∙ map-id (filter (comes_to N plant) (lane_numbers N))

pub views_have_lanes_out : ViewsHaveLanesOut
views_have_lanes_out N plant =
    map-map (λ (lane : OutgoingLane). lane.number.0) (outgoing_lane N) (filter (goes_from N plant) (lane_numbers N))
    ∙ map-id (filter (goes_from N plant) (lane_numbers N))
