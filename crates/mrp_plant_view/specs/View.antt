-- The view of one plant: its own pairs and rows, and the lanes that the plant receives or sends.
use Rattle.std.specs.Prelude.{ℕ, ◌<◌, ◌==◌, Bool, List, [], length, map, filter, Option, None, Some}
use Rattle.std.specs.List.{AllPairs, flat_map, range_with_len}
use Rattle.mrp_master_data.specs.declared.numbers.ItemNo.{ItemNo}
use Rattle.mrp_master_data.specs.declared.rows.FirmRow.{FirmRow}
use Rattle.mrp_master_data.specs.declared.rows.UsageRow.{UsageRow}
use Rattle.mrp_master_data.specs.Table.{Table, horizon, pair_no}
use Rattle.mrp_net.specs.declared.edge.Edge.{Edge}
use Rattle.mrp_net.specs.declared.lane.Lane.{Lane}
use Rattle.mrp_net.specs.declared.lane.LaneKind.TheVariants.{Despatch, Schedule}
use Rattle.mrp_net.specs.declared.lane.Shipment.{Shipment}
use Rattle.mrp_plant_view.specs.declared.amounts.Amounts.{Amounts}
use Rattle.mrp_plant_view.specs.declared.amounts.Amounts.TheVariants.{Demands, Receipts}
use Rattle.mrp_plant_view.specs.declared.view.Call.{Call}
use Rattle.mrp_plant_view.specs.declared.view.IncomingItem.{IncomingItem}
use Rattle.mrp_plant_view.specs.declared.view.IncomingLane.{IncomingLane}
use Rattle.mrp_plant_view.specs.declared.view.OutgoingLane.{OutgoingLane}
use Rattle.mrp_plant_view.specs.declared.view.PlantEdge.{PlantEdge}
use Rattle.mrp_plant_view.specs.declared.view.PlantPair.{PlantPair}
use Rattle.mrp_net.specs.Edges.{demanders}
use Rattle.mrp_net.specs.FirmOrders.{firms_of}
use Rattle.mrp_net.specs.Policies.{policy_of}
use Rattle.mrp_net.specs.Lanes.{lanes, lane_at, lane_items, figure, opening, shipments, reset, pair_on, supplier_of}
use Rattle.mrp_net.specs.EdgeLaws.{is_local}
use Rattle.mrp_plant_view.specs.Loads.{OutgoingLoad}
use Rattle.mrp_net.specs.Sources.{source_on}
use Rattle.mrp_net.specs.Sums.{pair_at, params_at, row_of, demand, received_when_due, received_sooner}
use Rattle.mrp_net.specs.Usages.{usages_to}

-- The number of periods; the plant's pairs; the components of those that are made; what the demand rows of each pair add
-- up to, and its receipt rows that count when they come, pair by pair and period by period; the firm planned orders of
-- each pair; its receipts that may be counted sooner, period by period, or no period; the usage rows of each pair as a
-- component; and the lanes.
pub record PlantRows : Type 0 where
  pub horizon : ℕ
  pub pairs : List PlantPair
  pub edges : List PlantEdge
  pub demands : List ℕ
  pub receipts : List ℕ
  pub firms : List (List FirmRow)
  pub sooner : List (List ℕ)
  pub usages : List (List UsageRow)
  pub incoming : List IncomingLane
  pub outgoing : List OutgoingLane

-- ---- its pairs

-- the plant's pairs, in table order
abbrev pub is_of_plant : Table → ℕ → ℕ → Bool
is_of_plant N plant x = (pair_at N x).plant.0 == plant

abbrev pub plant_pair : Table → ℕ → PlantPair
plant_pair N x =
    record { number = record { 0 = x }; item = (pair_at N x).item; params = params_at N x; policy = policy_of N x }

abbrev pub plant_pairs : Table → ℕ → List PlantPair
plant_pairs N plant = map (plant_pair N) (filter (is_of_plant N plant) (range_with_len 0 (length N.pairs)))

-- their numbers rise
abbrev pub NumbersRise : List PlantPair → Type 0
NumbersRise pairs = AllPairs (λ p q. p.number.0 < q.number.0) pairs

-- the edges to a pair from its own plant: by its bill row so many of it go into one of each parent
abbrev pub plant_edge : Edge → PlantEdge
plant_edge e = record { parent = e.demander; component = e.pair; per = e.per }

abbrev pub edges_to : Table → ℕ → List PlantEdge
edges_to N x = map plant_edge (filter (is_local N) (demanders N x))

-- those of all its pairs, by component
abbrev pub plant_edges : Table → ℕ → List PlantEdge
plant_edges N plant = flat_map (λ p. edges_to N p.number.0) (plant_pairs N plant)

-- what the rows of a pair add up to in a period; receipts that may be counted sooner stand apart
abbrev pub amount_of : Amounts → Table → ℕ → ℕ → ℕ
amount_of Demands N = demand N
amount_of Receipts N = received_when_due N

-- an amount of each of its pairs and each period, pair by pair
abbrev pub plant_amounts : Table → (ℕ → ℕ → ℕ) → ℕ → List ℕ
plant_amounts N amount plant = flat_map (λ p. row_of N (amount p.number.0)) (plant_pairs N plant)

-- the firm planned orders of each of its pairs
abbrev pub plant_firms : Table → ℕ → List (List FirmRow)
plant_firms N plant = map (λ p. firms_of N p.number.0) (plant_pairs N plant)

-- their receipts that may be counted sooner than they come
abbrev pub plant_sooner : Table → ℕ → List (List ℕ)
plant_sooner N plant = map (λ p. received_sooner N p.number.0) (plant_pairs N plant)

-- the usage rows of each of them as a component: how many pieces go into its parents, from which periods on
abbrev pub plant_usages : Table → ℕ → List (List UsageRow)
plant_usages N plant = map (λ p. usages_to N p.number.0) (plant_pairs N plant)

-- ---- its lanes

-- the lanes that it receives, and those that it sends
abbrev pub comes_to : Table → ℕ → ℕ → Bool
comes_to N plant l = (lane_at N l).receiver.0 == plant

abbrev pub goes_from : Table → ℕ → ℕ → Bool
goes_from N plant l = (lane_at N l).sender.0 == plant

abbrev pub lane_numbers : Table → List ℕ
lane_numbers N = range_with_len 0 (length (lanes N))

-- an item of a lane that it receives, and its own pair of the item
abbrev pub incoming_item : Table → Lane → ItemNo → IncomingItem
incoming_item N lane item = record {
  item = item;
  pair = record { 0 = pair_no N lane.receiver.0 item.0 };
  opening = opening N lane item;
  reset = reset N lane item;
}

abbrev pub incoming_lane : Table → ℕ → IncomingLane
incoming_lane N l =
    record {
      number = record { 0 = l };
      kind = (lane_at N l).kind;
      items =
          map (incoming_item N (lane_at N l)) (lane_items N (lane_at N l));
    }

-- the lanes that it receives, in lane order
abbrev pub incoming_lanes : Table → ℕ → List IncomingLane
incoming_lanes N plant = map (incoming_lane N) (filter (comes_to N plant) (lane_numbers N))

-- the shipments that the sender of a lane has on their way: a customer has none
abbrev pub sent_on : Table → Lane → ItemNo → List Shipment
sent_on N lane item = elim lane.kind [ Despatch ↦ shipments N lane item | Schedule ↦ [] ]

-- the customer calls for the source's share of what its own pair releases
abbrev pub called_on : Table → Lane → ItemNo → Call
called_on N lane item =
    record {
      customer = (source_on N lane item).pair;
      low = (source_on N lane item).low;
      high =
          (source_on N lane item).high;
    }

-- what the sender of a lane calls for: a supplier calls for nothing, and sees nothing of its customer's pairs
abbrev pub call_on : Table → Lane → ItemNo → Option Call
call_on N lane item = elim lane.kind [ Despatch ↦ None | Schedule ↦ Some (called_on N lane item) ]

-- an item of a lane that it sends
abbrev pub outgoing_item : Table → Lane → ItemNo → OutgoingLoad
outgoing_item N lane item = record {
  item = item;
  figure = figure N (pair_on N lane item) (supplier_of lane);
  call = call_on N lane item;
  shipments = sent_on N lane item;
  reset = reset N lane item;
}

abbrev pub outgoing_lane : Table → ℕ → OutgoingLane
outgoing_lane N l =
    record {
      number = record { 0 = l };
      kind = (lane_at N l).kind;
      items =
          map (outgoing_item N (lane_at N l)) (lane_items N (lane_at N l));
    }

-- the lanes that it sends, in lane order
abbrev pub outgoing_lanes : Table → ℕ → List OutgoingLane
outgoing_lanes N plant = map (outgoing_lane N) (filter (goes_from N plant) (lane_numbers N))

-- all that a plant sees
abbrev pub plant_rows : Table → ℕ → PlantRows
plant_rows N plant = record {
  horizon = horizon N;
  pairs = plant_pairs N plant;
  edges = plant_edges N plant;
  demands = plant_amounts N (demand N) plant;
  receipts = plant_amounts N (received_when_due N) plant;
  firms = plant_firms N plant;
  sooner = plant_sooner N plant;
  usages = plant_usages N plant;
  incoming = incoming_lanes N plant;
  outgoing = outgoing_lanes N plant;
}
