-- The view of one plant: what it says, whatever the accepted table, which is all that a plant
-- must know of it to plan alone.
use Rattle.std.specs.Prelude.{◌≡◌, ℕ, ◌-◌, ◌*◌, ◌<◌, ◌≤◌, ◌==◌, List, length, map, count_by, Option, None, Some, IfSome}
use Rattle.std.specs.Prelude.{All, Contains}
use Rattle.std.specs.List.Sorted.{IsNonDecreasingBy}
use Rattle.mrp_qty.specs.declared.quantity.TheConstants.{MOST}
use Rattle.mrp_qty.specs.declared.horizon.TheConstants.{LONGEST}
use Rattle.mrp_lot.specs.Lot.{IsRule}
use Rattle.mrp_lot.specs.declared.rule.TheConstants.{LONGEST_LEAD, MOST_IN_RULE}
use Rattle.mrp_master_data.specs.declared.numbers.ItemNo.{ItemNo}
use Rattle.mrp_master_data.specs.declared.numbers.PairNo.{PairNo}
use Rattle.mrp_master_data.specs.declared.rows.FirmRow.{FirmRow}
use Rattle.mrp_master_data.specs.declared.rows.UsageRow.{UsageRow}
use Rattle.mrp_qty.specs.declared.limits.TheConstants.{MOST_PAIRS, MOST_PER}
use Rattle.mrp_qty.specs.declared.limits.TheConstants.{MOST_SHARE}
use Rattle.mrp_master_data.specs.Table.{IsAmount}
use Rattle.mrp_net.specs.declared.lane.LaneKind.TheVariants.{Despatch, Schedule}
use Rattle.mrp_net.specs.declared.lane.Shipment.{Shipment}
use Rattle.mrp_plant_view.specs.declared.view.IncomingItem.{IncomingItem}
use Rattle.mrp_plant_view.specs.declared.view.IncomingLane.{IncomingLane}
use Rattle.mrp_plant_view.specs.declared.view.OutgoingLane.{OutgoingLane}
use Rattle.mrp_plant_view.specs.declared.view.PlantEdge.{PlantEdge}
use Rattle.mrp_plant_view.specs.declared.view.PlantPair.{PlantPair}
use Rattle.mrp_plant_view.specs.Loads.{OutgoingLoad, call_of}
use Rattle.mrp_plant_view.specs.View.{PlantRows, NumbersRise}

-- one of the plant's pairs has that number, and is of that item
abbrev pub IsOwnPair : PlantRows → PairNo → Type 0
IsOwnPair V x = (p : PlantPair) × (Contains V.pairs p) × (p.number ≡ x)

abbrev pub IsOwnOf : PlantRows → PairNo → ItemNo → Type 0
IsOwnOf V x item = (p : PlantPair) × (Contains V.pairs p) × (p.number ≡ x) × (p.item ≡ item)

-- how many of the pairs, items or lanes have a number
abbrev pub pairs_of_number : ℕ → List PlantPair → ℕ
pairs_of_number x pairs = count_by (λ p. p.number.0 == x) pairs

abbrev pub pairs_of_item : ℕ → List PlantPair → ℕ
pairs_of_item item pairs = count_by (λ p. p.item.0 == item) pairs

-- a pair is planned by a rule in range, with a lead time, stock and safety stock in range
pub record IsPlantPair (p : PlantPair) : Type 0 where
  pub rule : IsRule p.params.rule
  pub lead : p.params.lead ≤ LONGEST_LEAD
  pub on_hand : IsAmount p.params.on_hand
  pub safety : IsAmount p.params.safety

-- it is planned beyond that by a policy in range: its planning time fence is within the periods
pub record IsPlantPolicy (V : PlantRows) (p : PlantPair) : Type 0 where
  pub fence : p.policy.fence < V.horizon
  pub sooner : p.policy.sooner ≤ LONGEST_LEAD
  pub cover : p.policy.cover ≤ LONGEST_LEAD
  pub least : p.policy.least ≤ MOST_IN_RULE
  pub multiple : p.policy.multiple ≤ MOST_IN_RULE

-- a firm planned order is released no later than it is due, and due within the periods
pub record IsPlantFirm (V : PlantRows) (f : FirmRow) : Type 0 where
  pub start : f.start ≤ f.due
  pub due : f.due < V.horizon

-- a usage row joins two pairs of the plant, and says how many pieces go into how many parents, both in range
pub record IsPlantUsage (V : PlantRows) (u : UsageRow) : Type 0 where
  pub parent : IsOwnPair V u.parent
  pub component : IsOwnPair V u.component
  pub per : u.usage.per ≤ MOST_PER
  pub some : 1 ≤ u.usage.base
  pub base : u.usage.base ≤ MOST_PER

-- an edge joins two pairs of the plant
pub record IsPlantEdge (V : PlantRows) (e : PlantEdge) : Type 0 where
  pub parent : IsOwnPair V e.parent
  pub component : IsOwnPair V e.component
  pub some : 1 ≤ e.per
  pub few : e.per ≤ MOST_PER

-- figures start anew within the periods, if they do
abbrev pub StartsWithin : PlantRows → Option ℕ → Type 0
StartsWithin V reset = IfSome reset (λ period. period < V.horizon)

-- an item of a lane that comes in is of one of the plant's pairs
pub record IsIncomingItem (V : PlantRows) (i : IncomingItem) : Type 0 where
  pub pair : IsOwnOf V i.pair i.item
  pub reset : StartsWithin V i.reset

-- a lane that comes in has each of its items once
pub record IsIncomingLane (V : PlantRows) (lane : IncomingLane) : Type 0 where
  pub once : (item : ℕ) → count_by (λ i. i.item.0 == item) lane.items ≤ 1
  pub items : All (IsIncomingItem V) lane.items

-- a shipment arrives within the periods, and is of at least one piece and at most 10^12
pub record IsShipment (V : PlantRows) (s : Shipment) : Type 0 where
  pub period : s.period < V.horizon
  pub some : 1 ≤ s.quantity
  pub quantity : IsAmount s.quantity

-- an item of a lane that goes out
pub record IsOutgoingItem (V : PlantRows) (i : OutgoingLoad) : Type 0 where
  pub figure : i.figure ≤ MOST
  pub shipments : All (IsShipment V) i.shipments
  pub reset : StartsWithin V i.reset

-- a lane that goes out has each of its items once
pub record IsOutgoingLane (V : PlantRows) (lane : OutgoingLane) : Type 0 where
  pub once : (item : ℕ) → count_by (λ i. i.item.0 == item) lane.items ≤ 1
  pub items : All (IsOutgoingItem V) lane.items

-- a despatch lane goes to a customer, and says nothing of its pairs: it calls for none of its items
abbrev pub CallsForNothing : OutgoingLane → Type 0
CallsForNothing lane = All (λ i. i.call ≡ None) lane.items

-- an item is called for: by the plant's own pair of it, for a share of what that releases
pub record HasCall (V : PlantRows) (i : OutgoingLoad) : Type 0 where
  pub there : i.call ≡ Some (call_of i)
  pub own : IsOwnOf V (call_of i).customer i.item
  pub rises : (call_of i).low < (call_of i).high
  pub ends : (call_of i).high ≤ MOST_SHARE

-- the despatch lane of the same two plants, which stands before a schedule lane: its items begin at
-- the figures before the shipments
abbrev pub despatched_item : OutgoingLoad → IncomingItem
despatched_item i = record { item = i.item; pair = (call_of i).customer; opening = i.figure; reset = i.reset }

abbrev pub lane_before : OutgoingLane → IncomingLane
lane_before lane =
    record { number = record { 0 = lane.number.0 - 1 }; kind = Despatch; items = map despatched_item lane.items }

-- a schedule lane goes to a supplier: its customer is the plant itself, each of whose pairs calls at most
-- once, and the despatch lane before it comes in
pub record IsScheduleLane (V : PlantRows) (lane : OutgoingLane) : Type 0 where
  pub after : 1 ≤ lane.number.0
  pub before : Contains V.incoming (lane_before lane)
  pub calls : All (HasCall V) lane.items
  pub customers_once : (x : ℕ) → count_by (λ i. (call_of i).customer.0 == x) lane.items ≤ 1

pub record IsView (V : PlantRows) : Type 0 where
  pub some_periods : 1 ≤ V.horizon
  pub periods : V.horizon ≤ LONGEST
  pub few_pairs : length V.pairs ≤ MOST_PAIRS
  pub numbers_rise : NumbersRise V.pairs
  pub numbers_once : (x : ℕ) → pairs_of_number x V.pairs ≤ 1
  pub items_once : (item : ℕ) → pairs_of_item item V.pairs ≤ 1
  pub pairs : All IsPlantPair V.pairs
  pub policies : All (IsPlantPolicy V) V.pairs
  pub edges : All (IsPlantEdge V) V.edges
  pub by_component : IsNonDecreasingBy (λ e. e.component.0) V.edges
  pub demands : length V.demands ≡ length V.pairs * V.horizon
  pub receipts : length V.receipts ≡ length V.pairs * V.horizon
  pub firms_by_pair : length V.firms ≡ length V.pairs
  pub firms : All (All (IsPlantFirm V)) V.firms
  pub sooner_by_pair : length V.sooner ≡ length V.pairs
  pub usages_by_pair : length V.usages ≡ length V.pairs
  pub usages : All (All (IsPlantUsage V)) V.usages
  pub usages_rise : All (IsNonDecreasingBy (λ u. u.parent.0)) V.usages
  pub incoming_once : (l : ℕ) → count_by (λ lane. lane.number.0 == l) V.incoming ≤ 1
  pub incoming : All (IsIncomingLane V) V.incoming
  pub outgoing_once : (l : ℕ) → count_by (λ lane. lane.number.0 == l) V.outgoing ≤ 1
  pub outgoing : All (IsOutgoingLane V) V.outgoing
  pub despatches : All (λ lane. lane.kind ≡ Despatch → CallsForNothing lane) V.outgoing
  pub schedules : All (λ lane. lane.kind ≡ Schedule → IsScheduleLane V lane) V.outgoing
