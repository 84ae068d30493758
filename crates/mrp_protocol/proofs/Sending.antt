-- The protocol: what a plant's view says of its lanes is what they carry.
use Rattle.std.proofs.Common.{◌≡◌, ℕ, ◌+◌, ◌==◌, ◌&&◌, Bool, true, false, cond, List, [], map, filter, refl, sym, ap, ◌∙◌, arith}
use Rattle.mrp_qty.proofs.RangeLaws.{sum_by-ext}
use Rattle.mrp_master_data.specs.declared.numbers.ItemNo.{ItemNo}
use Rattle.mrp_master_data.specs.declared.numbers.PlantNo.{PlantNo}
use Rattle.mrp_master_data.specs.Table.{Table, horizon, pair_no}
use Rattle.mrp_net.specs.declared.lane.Lane.{Lane}
use Rattle.mrp_net.specs.declared.lane.LaneKind.{LaneKind}
use Rattle.mrp_net.specs.declared.lane.LaneKind.TheVariants.{Despatch, Schedule}
use Rattle.mrp_net.specs.declared.lane.Shipment.{Shipment}
use Rattle.mrp_plant_view.specs.declared.view.Call.{Call}
use Rattle.mrp_plant_view.specs.declared.view.IncomingLane.{IncomingLane}
use Rattle.mrp_net.specs.Lanes.{lane_at, lane_items, shipments, opening, reset, pair_on, customer_of, supplier_of, figure, shipped_from}
use Rattle.mrp_net.specs.LaneLaws.{AreBothLanes, is_schedule}
use Rattle.mrp_net.specs.Plan.{release_at}
use Rattle.mrp_net.specs.Plan.{plan_of}
use Rattle.mrp_net.specs.Sources.{source_on}
use Rattle.mrp_net.specs.Sums.{pair_at}
use Rattle.mrp_plant_view.specs.View.{comes_to, lane_numbers, incoming_item, incoming_lane}
use Rattle.mrp_net.proofs.Routing.{opening_despatch, opening_schedule, map-map}
use Rattle.mrp_net.proofs.Sharing.{sum_map}
use Rattle.mrp_plant_view.proofs.Calling.{call_seen}
use Rattle.mrp_grouping.proofs.Kept.{sum_filter}
use Rattle.mrp_record.specs.Entries.{Delivery, contents}
use Rattle.mrp_record.specs.Blocks.{deliveries}
use Rattle.mrp_record.specs.Form.{FormItem, LaneForm}
use Rattle.mrp_record.specs.Laws.{form_item, quantity_in}
use Rattle.mrp_record.specs.Text.{Load, total}
use Rattle.mrp_record.proofs.Beginnings.{ended_blocks_bring_totals}
use Rattle.mrp_record.proofs.Figures.{cum_is_opening_and_moved}
use Rattle.mrp_protocol.specs.Loads.{delivery_of, by_period, despatched, lines_by, load_of, loads}
use Rattle.mrp_protocol.specs.Local.{brought_by}
use Rattle.mrp_net.specs.Shares.{share_of}
use Rattle.mrp_protocol.specs.Seen.{DespatchesAreSeen, SchedulesAreSeen, SchedulesOpenAfterShipments, form_item_of, FormsAreSeen, BroughtIsSeen}
use Rattle.mrp_protocol.proofs.Calling.{supplier_by_kind}
use Rattle.mrp_protocol.proofs.Small.{loads_stand_once, load_is_there, shipped_total}

-- a load with another opening figure and other lines
abbrev load_with : Table → Lane → ItemNo → ℕ → List Delivery → Load
load_with N lane item opening lines = record { item = item.0; opening = opening; reset = reset N lane item; lines = lines }

pub despatches_are_seen : DespatchesAreSeen
despatches_are_seen N lane item kind =
    let x : ℕ = pair_on N lane item in
    let start : ℕ = figure N x (supplier_of lane) in
    let sent : elim lane.kind as (λ _. List Shipment) [ Despatch ↦ shipments N lane item | Schedule ↦ [] ] ≡ shipments N lane item =
    ap (λ (k : LaneKind). elim k as (λ _. List Shipment) [ Despatch ↦ shipments N lane item | Schedule ↦ [] ]) kind in
    ap (λ (k : LaneKind). load_with N lane item (opening N lane item) (lines_by N k lane item)) kind
    ∙ ap (λ (z : ℕ). load_with N lane item z (despatched N lane item)) (opening_despatch N lane item kind)
    ∙ sym (ap (λ (z : List Shipment). load_with N lane item start (map delivery_of z)) sent)

pub schedules_are_seen : SchedulesAreSeen
schedules_are_seen N lane item kind =
    let release : ℕ → ℕ = release_at (plan_of N) (source_on N lane item).pair.0 in
    ap (λ (k : LaneKind). load_with N lane item (opening N lane item) (lines_by N k lane item)) kind
    ∙ sym (ap (λ (c : Call). load_with N lane item (opening N lane item) (by_period (λ period. share_of c.low c.high (release period)) (horizon N)))
    (call_seen N lane item kind))

-- ---- where schedules begin

customer_by_despatch : (lane : Lane) → lane.kind ≡ Despatch → customer_of lane ≡ lane.receiver.0
customer_by_despatch lane e = ap (λ (k : LaneKind). elim k as (λ _. ℕ) [ Despatch ↦ lane.receiver.0 | Schedule ↦ lane.sender.0 ]) e

supplier_by_despatch : (lane : Lane) → lane.kind ≡ Despatch → supplier_of lane ≡ lane.sender.0
supplier_by_despatch lane e = ap (λ (k : LaneKind). elim k as (λ _. ℕ) [ Despatch ↦ lane.sender.0 | Schedule ↦ lane.receiver.0 ]) e

pub customer_by_schedule : (lane : Lane) → lane.kind ≡ Schedule → customer_of lane ≡ lane.sender.0
customer_by_schedule lane e = ap (λ (k : LaneKind). elim k as (λ _. ℕ) [ Despatch ↦ lane.receiver.0 | Schedule ↦ lane.sender.0 ]) e

pub customers_are_one : (despatch schedule : Lane) → AreBothLanes despatch schedule → customer_of schedule ≡ customer_of despatch
customers_are_one despatch schedule both =
    customer_by_schedule schedule both.second ∙ ap (λ (p : PlantNo). p.0) both.customer ∙ sym (customer_by_despatch despatch both.first)

pub suppliers_are_one : (despatch schedule : Lane) → AreBothLanes despatch schedule → supplier_of schedule ≡ supplier_of despatch
suppliers_are_one despatch schedule both =
    supplier_by_kind schedule both.second ∙ ap (λ (p : PlantNo). p.0) both.supplier ∙ sym (supplier_by_despatch despatch both.first)

pub schedules_open_after_shipments : SchedulesOpenAfterShipments
schedules_open_after_shipments N table despatch schedule both records h item there ended =
    let load : Load = load_of N despatch item in
    let once = loads_stand_once N table despatch in
    let known = load_is_there N despatch item there in
    let reached = cum_is_opening_and_moved (loads N despatch) once records h load known in
    let all = ended_blocks_bring_totals (loads N despatch) once records h load known ended in
    let lines : total load.lines ≡ total (despatched N despatch item) = ap (λ (k : LaneKind). total (lines_by N k despatch item)) both.first in
    let customer = customers_are_one despatch schedule both in
    let supplier = suppliers_are_one despatch schedule both in
    let after : ℕ → ℕ → ℕ = λ c p. figure N (pair_no N c item.0) p + shipped_from N (pair_no N c item.0) p in
    let same : after (customer_of schedule) (supplier_of schedule) ≡ after (customer_of despatch) (supplier_of despatch) =
    ap (λ (c : ℕ). after c (supplier_of schedule)) customer ∙ ap (after (customer_of despatch)) supplier in
    omega (
      arith,
      reached,
      all,
      lines,
      shipped_total N despatch item,
      opening_despatch N despatch item both.first,
      opening_schedule N schedule item both.second,
      same,
    )

-- ---- lanes that come in

pub forms_are_seen : FormsAreSeen
forms_are_seen N l =
    let lane : Lane = lane_at N l in
    let items : map form_item (loads N lane) ≡ map form_item_of (map (incoming_item N lane) (lane_items N lane)) =
    map-map form_item (load_of N lane) (lane_items N lane) ∙ sym (map-map form_item_of (incoming_item N lane) (lane_items N lane)) in
    ap (λ (z : List FormItem). let f : LaneForm = record { rising = is_schedule lane.kind; horizon = horizon N; items = z } in f) items

either_order : (a b : Bool) (v : ℕ) → cond (a && b) v 0 ≡ cond b (cond a v 0) 0
either_order true true v = refl
either_order true false v = refl
either_order false true v = refl
either_order false false v = refl

pub brought_is_seen : BroughtIsSeen
brought_is_seen N taken is_kind x period =
    let plant : ℕ = (pair_at N x).plant.0 in
    let by_lane : IncomingLane → ℕ = λ lane. cond (is_kind lane.kind) (quantity_in period (deliveries (pair_at N x).item.0 (contents (taken lane.number.0)))) 0
    in
    let numbers : List ℕ = lane_numbers N in
    let alike : (l : ℕ) → cond (is_kind (lane_at N l).kind && ((lane_at N l).receiver.0 == plant)) (brought_by N taken x period l) 0
    ≡ cond (comes_to N plant l) (by_lane (incoming_lane N l)) 0 =
    λ l. either_order (is_kind (lane_at N l).kind) ((lane_at N l).receiver.0 == plant) (brought_by N taken x period l) in
    sum_by-ext (λ l. cond (is_kind (lane_at N l).kind && ((lane_at N l).receiver.0 == plant)) (brought_by N taken x period l) 0)
    (λ l. cond (comes_to N plant l) (by_lane (incoming_lane N l)) 0) numbers alike
    ∙ sym (sum_filter (λ l. by_lane (incoming_lane N l)) (comes_to N plant) numbers)
    ∙ sym (sum_map by_lane (incoming_lane N) (filter (comes_to N plant) numbers))
