-- The protocol: what a plant has to send over its lanes, by its own view, plans and lists. `taken` has the records of
-- each lane by the lane's number, `planned` and `plans` say which pairs are planned and how, by the pair's number.
use Rattle.std.specs.Prelude.{◌≡◌, ℕ, ◌-◌, ◌<◌, Bool, true, List, length, map, filter, drop, slice_index}
use Rattle.std.specs.List.{range_with_len}
use Rattle.mrp_netting.specs.PlanRows.{PlanRows}
use Rattle.mrp_net.specs.declared.lane.LaneKind.{LaneKind}
use Rattle.mrp_net.specs.declared.lane.LaneKind.TheVariants.{Despatch, Schedule}
use Rattle.mrp_plant_view.specs.declared.view.Call.{Call}
use Rattle.mrp_plant_view.specs.declared.view.OutgoingLane.{OutgoingLane}
use Rattle.mrp_plant_view.specs.Loads.{OutgoingLoad, call_of, load_at}
use Rattle.mrp_plant_view.specs.View.{PlantRows}
use Rattle.mrp_record.specs.declared.record.Record.{Record}
use Rattle.mrp_record.specs.Entries.{Delivery, contents, cum}
use Rattle.mrp_protocol.specs.Loads.{delivery_of, delivery_in, has_pieces}
use Rattle.mrp_net.specs.Shares.{share_of}
use Rattle.mrp_record.specs.Cursor.{Goods}

-- ---- despatch lanes

-- the shipments on their way, in table order
abbrev pub despatch_goods : OutgoingLoad → Goods
despatch_goods i = record {
  item = i.item.0;
  opening = i.figure;
  reset = i.reset;
  from = λ mark. map delivery_of (drop mark i.shipments);
}

-- ---- schedule lanes

-- the supplier's share of a release
abbrev pub share : Call → ℕ → ℕ
share call release = share_of call.low call.high release

-- its part of what the customer's plan releases in a period
abbrev pub called_for : (ℕ → PlanRows) → OutgoingLoad → ℕ → ℕ
called_for plans i period = share (call_of i) (slice_index (plans (call_of i).customer.0).release period)

-- an amount of each period from a mark on, as deliveries; a period without pieces has none
abbrev pub by_period_from : (ℕ → ℕ) → ℕ → ℕ → List Delivery
by_period_from amount periods mark = filter has_pieces (map (delivery_in amount) (range_with_len mark (periods - mark)))

-- the parts of the customer's releases, beyond what the supplier's despatches so far come to
abbrev pub schedule_goods : PlantRows → List Record → (ℕ → PlanRows) → OutgoingLoad → Goods
schedule_goods V despatched plans i = record {
  item = i.item.0;
  opening = cum i.figure i.item.0 (contents despatched);
  reset = i.reset;
  from = by_period_from (called_for plans i) V.horizon;
}

-- ---- both

-- of each item of a lane; the despatch lane of the same two plants has the number before a schedule lane's
abbrev pub goods_by : LaneKind → PlantRows → (ℕ → List Record) → (ℕ → PlanRows) → ℕ → OutgoingLoad → Goods
goods_by Despatch V taken plans l i = despatch_goods i
goods_by Schedule V taken plans l i = schedule_goods V (taken (l - 1)) plans i

abbrev pub goods_of : PlantRows → (ℕ → List Record) → (ℕ → PlanRows) → OutgoingLane → ℕ → Goods
goods_of V taken plans lane place = goods_by lane.kind V taken plans lane.number.0 (load_at lane.items place)

-- the items that may be sent: all on a despatch lane, on a schedule lane those whose customer's pair is planned
pub record IsSendable (planned : ℕ → Bool) (lane : OutgoingLane) (place : ℕ) : Type 0 where
  pub within : place < length lane.items
  pub decided : lane.kind ≡ Schedule → planned (call_of (load_at lane.items place)).customer.0 ≡ true
