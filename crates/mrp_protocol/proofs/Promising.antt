-- The protocol: what a plant sends by its own plans is what its lanes carry.
use Rattle.std.proofs.Common.{◌≡◌, ℕ, ◌+◌, ◌-◌, ◌*◌, ◌/◌, ◌<◌, Bool, true, List, ◌⊎◌, inl, inr, length, map, slice_index, sym, ap, subst, ◌∙◌, arith, Contains}
use Rattle.mrp_netting.specs.PlanRows.{PlanRows}
use Rattle.mrp_master_data.specs.declared.numbers.ItemNo.{ItemNo}
use Rattle.mrp_master_data.specs.declared.numbers.PlantNo.{PlantNo}
use Rattle.mrp_master_data.specs.Table.{Table, IsTable, horizon, pair_no}
use Rattle.mrp_net.specs.declared.lane.Lane.{Lane}
use Rattle.mrp_net.specs.declared.lane.LaneKind.TheVariants.{Despatch, Schedule}
use Rattle.mrp_net.specs.Lanes.{lanes, lane_at, lane_items, taken_over, item_of_source, opening, pair_on, customer_of, supplier_of, figure}
use Rattle.mrp_net.specs.LaneLaws.{AreBothLanes}
use Rattle.mrp_net.specs.Plan.{release_at}
use Rattle.mrp_net.specs.Plan.{rows_at, plan_of}
use Rattle.mrp_net.specs.Sources.{source_on}
use Rattle.mrp_net.specs.Sums.{pair_at}
use Rattle.mrp_plant_view.specs.declared.view.Call.{Call}
use Rattle.mrp_plant_view.specs.Loads as seen
use Rattle.mrp_plant_view.specs.View.{outgoing_item}
use Rattle.mrp_plant_view.proofs.Calling.{call_seen}
use Rattle.mrp_net.proofs.Behind.{items_have_sources}
use Rattle.mrp_net.proofs.Routing.{opening_despatch}
use Rattle.mrp_net.proofs.Twos.{lanes_come_in_twos}
use Rattle.mrp_loops.specs.Loop.{IsLoopFree}
use Rattle.mrp_record.specs.declared.record.Record.{Record}
use Rattle.mrp_record.specs.Entries.{contents, cum, is_ended}
use Rattle.mrp_protocol.specs.Loads.{load_of}
use Rattle.mrp_protocol.specs.Local.{AreLegal, AreLocal}
use Rattle.mrp_protocol.specs.Seen.{schedule_load, LocalLoadsAreTheLoads}
use Rattle.mrp_protocol.proofs.Planned.{local_plans_are_the_plan}
use Rattle.mrp_protocol.proofs.Sending.{schedules_are_seen, schedules_open_after_shipments, customers_are_one, suppliers_are_one, customer_by_schedule}

module _ (N : Table) (table : IsTable N) (free : IsLoopFree N) (plant : ℕ) (planned : ℕ → Bool) (taken : ℕ
    → List Record) (plans : List PlanRows) (legal : AreLegal N plant taken) (are : AreLocal N plant planned taken plans) (item : ItemNo) where
  -- by a despatch lane and the schedule lane of the same two plants
  by_lanes : (before : ℕ) → before < length (lanes N) → (schedule : Lane) → AreBothLanes (lane_at N before) schedule → schedule.sender.0 ≡ plant
      → Contains (lane_items N schedule) item → planned (pair_on N schedule item) ≡ true
      → load_of N schedule item ≡ schedule_load (horizon N) (cum (figure N (pair_on N schedule item) (supplier_of schedule)) item.0 (contents (taken before)))
      (release_at plans (source_on N schedule item).pair.0) (outgoing_item N schedule item)
  by_lanes before within schedule both here there is_planned =
      let despatch : Lane = lane_at N before in
      let x : ℕ = pair_on N schedule item in
      let has = items_have_sources N table schedule item there in
      let customer = customers_are_one despatch schedule both in
      let supplier = suppliers_are_one despatch schedule both in
      let at_plant : (pair_at N x).plant.0 ≡ plant = has.customer.at_plant ∙ customer_by_schedule schedule both.second ∙ here in
      let arrives : despatch.receiver.0 ≡ plant = sym (ap (λ (p : PlantNo). p.0) both.customer) ∙ here in
      let items : lane_items N schedule ≡ lane_items N despatch =
      ap (λ (c : ℕ). map (item_of_source N) (taken_over N c (supplier_of schedule))) customer
      ∙ ap (λ (p : ℕ). map (item_of_source N) (taken_over N (customer_of despatch) p)) supplier in
      let there_too : Contains (lane_items N despatch) item = subst (λ (z : List ItemNo). Contains z item) items there in
      let local = are x has.customer.pair at_plant is_planned in
      let its : Contains (lane_items N despatch) (pair_at N x).item = subst (Contains (lane_items N despatch)) (sym has.customer.of_item) there_too in
      let ended : is_ended item.0 (contents (taken before)) ≡ true =
      subst (λ (i : ItemNo). is_ended i.0 (contents (taken before)) ≡ true) has.customer.of_item (local.0.brought before within (arrives ∙ sym at_plant) its) in
      let start : figure N x (supplier_of schedule) ≡ opening N despatch item =
      ap (λ (c : ℕ). figure N (pair_no N c item.0) (supplier_of schedule)) customer ∙ ap (figure N (pair_on N despatch item)) supplier
      ∙ sym (opening_despatch N despatch item both.first) in
      let reached : cum (figure N x (supplier_of schedule)) item.0 (contents (taken before)) ≡ opening N schedule item =
      ap (λ (z : ℕ). cum z item.0 (contents (taken before))) start
      ∙ schedules_open_after_shipments N table despatch schedule both (taken before) (legal before within arrives) item there_too ended in
      let rows : rows_at plans x ≡ rows_at (plan_of N) x = local_plans_are_the_plan N table free plant planned taken plans legal are x has.customer.pair
      at_plant is_planned in
      let source : (source_on N schedule item).pair.0 ≡ x = has.taker in
      let plan_there : rows_at (plan_of N) (source_on N schedule item).pair.0 ≡ rows_at plans (source_on N schedule item).pair.0 =
      ap (rows_at (plan_of N)) source ∙ sym rows ∙ sym (ap (rows_at plans) source) in
      schedules_are_seen N schedule item both.second
      ∙ ap (λ (z : PlanRows). schedule_load (horizon N) (opening N schedule item) (λ t. slice_index z.release t) (outgoing_item N schedule item)) plan_there
      ∙ sym (ap (λ (z : ℕ). schedule_load (horizon N) z (release_at plans (source_on N schedule item).pair.0) (outgoing_item N schedule item)) reached)

by_halves : (l : ℕ) → (l ≡ 2 * (l / 2)) ⊎ (l ≡ 2 * (l / 2) + 1)
by_halves l = grind arith

kinds_apart : Despatch ≡ Schedule → ⊥
kinds_apart e = cc

pub local_loads_are_the_loads : LocalLoadsAreTheLoads
local_loads_are_the_loads N table free plant planned taken plans legal are l within kind here item there is_planned =
    let k : ℕ = l / 2 in
    elim (by_halves l) [
      | inl even ↦
          let both = (lanes_come_in_twos N k (omega arith)).1 in
          absurd (kinds_apart (sym both.first ∙ ap (λ (z : ℕ). (lane_at N z).kind) (sym even) ∙ kind))
      | inr odd ↦
          let before : l - 1 ≡ 2 * k = omega arith in
          let both : AreBothLanes (lane_at N (l - 1)) (lane_at N l) =
          subst (λ (z : ℕ). AreBothLanes (lane_at N z) (lane_at N l)) (sym before)
          (subst (λ (z : ℕ). AreBothLanes (lane_at N (2 * k)) (lane_at N z)) (sym odd) (lanes_come_in_twos N k (omega arith)).1) in
          let i : seen.OutgoingLoad = outgoing_item N (lane_at N l) item in
          by_lanes N table free plant planned taken plans legal are item (l - 1) (omega arith) (lane_at N l) both here there is_planned
          ∙ sym (ap (λ (c : Call). schedule_load (horizon N) (cum i.figure i.item.0 (contents (taken (l - 1)))) (release_at plans c.customer.0) i)
          (call_seen N (lane_at N l) item kind))
    ]
