-- The protocol: what a plant sees of its lanes says what they carry.
use Rattle.std.specs.Prelude.{◌≡◌, ℕ, ◌-◌, ◌<◌, if◌then◌else◌, Bool, true, List, length, map, sum_by, Contains}
use Rattle.mrp_netting.specs.PlanRows.{PlanRows}
use Rattle.mrp_master_data.specs.declared.numbers.ItemNo.{ItemNo}
use Rattle.mrp_master_data.specs.Table.{Table, IsTable, horizon}
use Rattle.mrp_net.specs.declared.lane.Lane.{Lane}
use Rattle.mrp_net.specs.declared.lane.LaneKind.{LaneKind}
use Rattle.mrp_net.specs.declared.lane.LaneKind.TheVariants.{Despatch, Schedule}
use Rattle.mrp_plant_view.specs.declared.view.IncomingItem.{IncomingItem}
use Rattle.mrp_plant_view.specs.declared.view.IncomingLane.{IncomingLane}
use Rattle.mrp_net.specs.Lanes.{lanes, lane_at, lane_items, opening, pair_on}
use Rattle.mrp_net.specs.LaneLaws.{AreBothLanes, is_schedule}
use Rattle.mrp_net.specs.Plan.{release_at}
use Rattle.mrp_plant_view.specs.Loads as seen
use Rattle.mrp_net.specs.Plan.{plan_of}
use Rattle.mrp_net.specs.Shares.{share_of}
use Rattle.mrp_net.specs.Sources.{source_on}
use Rattle.mrp_net.specs.Sums.{pair_at}
use Rattle.mrp_plant_view.specs.View.{incoming_lane, outgoing_item, plant_rows}
use Rattle.mrp_loops.specs.Loop.{IsLoopFree}
use Rattle.mrp_record.specs.declared.record.Record.{Record}
use Rattle.mrp_record.specs.Entries.{contents, cum, is_ended}
use Rattle.mrp_record.specs.Blocks.{deliveries}
use Rattle.mrp_record.specs.Form.{FormItem, LaneForm}
use Rattle.mrp_record.specs.Laws.{quantity_in}
use Rattle.mrp_record.specs.Text.{Load, IsBeginning}
use Rattle.mrp_protocol.specs.LoadLaws.{lane_form}
use Rattle.mrp_protocol.specs.Loads.{delivery_of, by_period, load_of, loads}
use Rattle.mrp_protocol.specs.Local.{AreLegal, AreLocal, brought}

-- ---- lanes that it sends

-- a despatch lane's load of an item: the shipments on their way
abbrev pub despatch_load : seen.OutgoingLoad → Load
despatch_load i = record { item = i.item.0; opening = i.figure; reset = i.reset; lines = map delivery_of i.shipments }

-- a schedule lane's load, from an opening figure on: the share that is called for of what is released for the pair
abbrev pub schedule_load : ℕ → ℕ → (ℕ → ℕ) → seen.OutgoingLoad → Load
schedule_load periods opening release i = record {
  item = i.item.0;
  opening = opening;
  reset = i.reset;
  lines = by_period (λ period. share_of (seen.call_of i).low (seen.call_of i).high (release period)) periods;
}

-- they are the loads of the lane: schedules by the plan of the customer's pair
abbrev pub DespatchesAreSeen : Type 0
DespatchesAreSeen =
    (N : Table) (lane : Lane) (item : ItemNo) → lane.kind ≡ Despatch
    → load_of N lane item ≡ despatch_load (outgoing_item N lane item)

abbrev pub SchedulesAreSeen : Type 0
SchedulesAreSeen =
    (N : Table) (lane : Lane) (item : ItemNo) → lane.kind ≡ Schedule
    → load_of N lane item
    ≡ schedule_load (horizon N) (opening N lane item) (release_at (plan_of N) (source_on N lane item).pair.0)
    (outgoing_item N lane item)

-- a schedule lane's figures begin where those of the despatch lane of the same two plants stand once
-- the item's block is taken
abbrev pub SchedulesOpenAfterShipments : Type 0
SchedulesOpenAfterShipments =
    (N : Table) → IsTable N → (despatch schedule : Lane) → AreBothLanes despatch schedule
    → (records : List Record) → IsBeginning (loads N despatch) records
    → (item : ItemNo) → Contains (lane_items N despatch) item → is_ended item.0 (contents records) ≡ true
    → cum (opening N despatch item) item.0 (contents records) ≡ opening N schedule item

-- a schedule lane's load by the plans and the taken lists of its sender
abbrev pub local_load : Table → (ℕ → List Record) → List PlanRows → ℕ → seen.OutgoingLoad → Load
local_load N taken plans l i =
    schedule_load (horizon N) (cum i.figure i.item.0 (contents (taken (l - 1))))
    (release_at plans (seen.call_of i).customer.0) i

-- so what a plant sends by its own plans is what its lanes carry: of a planned pair each schedule lane has
-- the load by the pair's local plan, from the figure that the despatch lane before it has reached
abbrev pub LocalLoadsAreTheLoads : Type 0
LocalLoadsAreTheLoads =
    (N : Table) → IsTable N → IsLoopFree N
    → (plant : ℕ) (planned : ℕ → Bool) (taken : ℕ → List Record) (plans : List PlanRows)
    → AreLegal N plant taken → AreLocal N plant planned taken plans
    → (l : ℕ) → l < length (lanes N) → (lane_at N l).kind ≡ Schedule → (lane_at N l).sender.0 ≡ plant
    → (item : ItemNo) → Contains (lane_items N (lane_at N l)) item → planned (pair_on N (lane_at N l) item) ≡ true
    → load_of N (lane_at N l) item ≡ local_load N taken plans l (outgoing_item N (lane_at N l) item)

-- ---- lanes that it receives

-- what is known of a lane by its items
abbrev pub form_item_of : IncomingItem → FormItem
form_item_of i = record { item = i.item.0; opening = i.opening; reset = i.reset }

abbrev pub seen_form : ℕ → IncomingLane → LaneForm
seen_form periods lane =
    record { rising = is_schedule lane.kind; horizon = periods; items = map form_item_of lane.items }

abbrev pub FormsAreSeen : Type 0
FormsAreSeen = (N : Table) (l : ℕ) → lane_form N (lane_at N l) ≡ seen_form (horizon N) (incoming_lane N l)

-- what the lanes of a kind have brought of an item in a period, of those that come in
abbrev pub brought_in : List IncomingLane → (ℕ → List Record) → (LaneKind → Bool) → ℕ → ℕ → ℕ
brought_in lanes taken is_kind item period =
    let by_lane = λ (lane : IncomingLane). quantity_in period (deliveries item (contents (taken lane.number.0))) in
    sum_by (λ lane. if is_kind lane.kind then by_lane lane else 0) lanes

-- all that has been brought to a pair is what the plant sees come in
abbrev pub BroughtIsSeen : Type 0
BroughtIsSeen =
    (N : Table) (taken : ℕ → List Record) (is_kind : LaneKind → Bool) (x period : ℕ)
    → brought N taken is_kind x period
    ≡ brought_in (plant_rows N (pair_at N x).plant.0).incoming taken is_kind (pair_at N x).item.0 period
