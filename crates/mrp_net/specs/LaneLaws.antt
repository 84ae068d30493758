-- The network: laws of its lanes. Their items, the sources behind them, the two plants that each
-- joins, and what arrives over them.
use Rattle.std.specs.Prelude.{◌≡◌, ◌≢◌, ℕ, ◌+◌, ◌*◌, ◌<◌, ◌≤◌, ◌==◌, ◌&&◌, if◌then◌else◌, Bool, true, false, List}
use Rattle.std.specs.Prelude.{[], length, map, filter, sum_by, All, Contains}
use Rattle.std.specs.List.{AllPairs, IsDistinct}
use Rattle.mrp_master_data.specs.declared.numbers.ItemNo.{ItemNo}
use Rattle.mrp_master_data.specs.declared.rows.SourceRow.{SourceRow}
use Rattle.mrp_master_data.specs.Table.{Table, IsTable, IsPair}
use Rattle.mrp_net.specs.declared.lane.Lane.{Lane}
use Rattle.mrp_net.specs.declared.lane.LaneKind.{LaneKind}
use Rattle.mrp_net.specs.declared.lane.LaneKind.TheVariants.{Despatch, Schedule}
use Rattle.mrp_net.specs.declared.lane.Shipment.{Shipment}
use Rattle.mrp_net.specs.Lanes.{lanes, lane_at, taken_over, item_of_source, lane_items, opening, shipments, pair_on}
use Rattle.mrp_net.specs.Lanes.{customer_of, supplier_of}
use Rattle.mrp_net.specs.Sources.{source_on}
use Rattle.mrp_net.specs.SourceRows.{supplied_on}
use Rattle.mrp_net.specs.Sums.{pair_at, incoming, received_when_due, supply}

-- the items over a route are each brought by one source, and a lane has each of its items once
abbrev pub is_same_item : ItemNo → ItemNo → Bool
is_same_item i j = i.0 == j.0

abbrev pub OneSourceBringsAnItem : Type 0
OneSourceBringsAnItem =
    (N : Table) → IsTable N → (customer supplier : ℕ)
    → IsDistinct is_same_item (map (item_of_source N) (taken_over N customer supplier))

abbrev pub LaneItemsStandOnce : Type 0
LaneItemsStandOnce = (N : Table) → IsTable N → (lane : Lane) → IsDistinct is_same_item (lane_items N lane)

-- the pair of a plant and an item
pub record IsPairOf (N : Table) (x plant : ℕ) (item : ItemNo) : Type 0 where
  pub pair : IsPair N x
  pub at_plant : (pair_at N x).plant.0 ≡ plant
  pub of_item : (pair_at N x).item ≡ item

-- behind an item of a lane there is the source by which the customer's pair takes it from the
-- supplier, and both have a pair of the item
pub record HasSource (N : Table) (lane : Lane) (item : ItemNo) : Type 0 where
  pub source : Contains N.sources (source_on N lane item)
  pub taker : (source_on N lane item).pair.0 ≡ pair_on N lane item
  pub plant : (source_on N lane item).plant.0 ≡ supplier_of lane
  pub customer : IsPairOf N (pair_on N lane item) (customer_of lane) item
  pub supplier : IsPairOf N (supplied_on N lane item) (supplier_of lane) item

abbrev pub ItemsHaveSources : Type 0
ItemsHaveSources =
    (N : Table) → IsTable N → (lane : Lane) (item : ItemNo) → Contains (lane_items N lane) item → HasSource N lane item

-- the despatch lane of a source, from its plant to the plant of the pair, and the schedule lane back
abbrev pub despatch_lane : Table → SourceRow → Lane
despatch_lane N s = record { kind = Despatch; sender = s.plant; receiver = (pair_at N s.pair.0).plant }

abbrev pub schedule_lane : Table → SourceRow → Lane
schedule_lane N s = record { kind = Schedule; sender = (pair_at N s.pair.0).plant; receiver = s.plant }

-- both are among the lanes and have the source's item
pub record HasBothLanes (N : Table) (s : SourceRow) : Type 0 where
  pub despatch : Contains (lanes N) (despatch_lane N s)
  pub schedule : Contains (lanes N) (schedule_lane N s)
  pub despatched : Contains (lane_items N (despatch_lane N s)) (item_of_source N s)
  pub scheduled : Contains (lane_items N (schedule_lane N s)) (item_of_source N s)

abbrev pub SourcesHaveLanes : Type 0
SourcesHaveLanes = (N : Table) → IsTable N → All (HasBothLanes N) N.sources

-- a despatch lane and the schedule lane of the same two plants
pub record AreBothLanes (despatch schedule : Lane) : Type 0 where
  pub first : despatch.kind ≡ Despatch
  pub second : schedule.kind ≡ Schedule
  pub customer : schedule.sender ≡ despatch.receiver
  pub supplier : schedule.receiver ≡ despatch.sender

-- an even place among the lanes has a despatch lane, and the place after it the schedule lane of the
-- same two plants
abbrev pub LanesComeInTwos : Type 0
LanesComeInTwos =
    (N : Table) (k : ℕ) → 2 * k < length (lanes N)
    → (2 * k + 1 < length (lanes N)) × AreBothLanes (lane_at N (2 * k)) (lane_at N (2 * k + 1))

-- no lane stands twice
abbrev pub LanesStandOnce : Type 0
LanesStandOnce = (N : Table) → AllPairs (λ a b. a ≢ b) (lanes N)

-- a lane joins two plants of the table, two different ones, and has items
pub record JoinsTwo (N : Table) (lane : Lane) : Type 0 where
  pub customer : customer_of lane < length N.plants
  pub supplier : supplier_of lane < length N.plants
  pub two : customer_of lane ≢ supplier_of lane
  pub some : 1 ≤ length (lane_items N lane)

abbrev pub LanesJoinTwoPlants : Type 0
LanesJoinTwoPlants = (N : Table) → IsTable N → All (JoinsTwo N) (lanes N)

-- an item's figures on a lane begin at no more than its customer's pair has without any order
abbrev pub OpeningsAreSupplied : Type 0
OpeningsAreSupplied = (N : Table) (lane : Lane) (item : ItemNo) → opening N lane item ≤ supply N (pair_on N lane item)

-- the despatch lanes to a plant
abbrev pub is_despatch : LaneKind → Bool
is_despatch Despatch = true
is_despatch Schedule = false

abbrev pub despatches_to : Table → ℕ → List Lane
despatches_to N plant = filter (λ lane. is_despatch lane.kind && (lane.receiver.0 == plant)) (lanes N)

-- the schedule lanes, on which the periods of an item rise
abbrev pub is_schedule : LaneKind → Bool
is_schedule Despatch = false
is_schedule Schedule = true

-- what arrives of shipments in a period
abbrev pub arriving : ℕ → List Shipment → ℕ
arriving t ships = sum_by (λ s. if s.period == t then s.quantity else 0) ships

-- what comes in for a pair is its receipts that count when they come, and what arrives of its item over the despatch
-- lanes to its plant
abbrev pub IncomingComesOverLanes : Type 0
IncomingComesOverLanes =
    (N : Table) → IsTable N → (x t : ℕ) → IsPair N x
    → incoming N x t ≡ received_when_due N x t + sum_by (λ lane. arriving t (shipments N lane (pair_at N x).item))
    (despatches_to N (pair_at N x).plant.0)

-- and a lane that doesn't have the item has no shipments of it
abbrev pub ShipmentsAreOfItems : Type 0
ShipmentsAreOfItems =
    (N : Table) → IsTable N → (lane : Lane) (item : ItemNo) → ¬ Contains (lane_items N lane) item
    → shipments N lane item ≡ []
