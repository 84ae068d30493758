-- The agent: its state after a record is sent or booked, or a pair's plan is settled.
use Rattle.std.specs.Prelude.{◌≡◌, ℕ, ◌+◌, ◌*◌, ◌<◌, nat_lt, if◌then◌else◌, true, List, length}
use Rattle.std.specs.Prelude.{map, Contains, position, slice_index, slice_index_or, slice_set, ◌==◌, Option, None, Some}
use Rattle.mrp_netting.specs.PlanRows.{PlanRows}
use Rattle.mrp_master_data.specs.declared.numbers.ItemNo.{ItemNo}
use Rattle.mrp_net.specs.declared.lane.LaneKind.{LaneKind}
use Rattle.mrp_net.specs.declared.lane.LaneKind.TheVariants.{Despatch, Schedule}
use Rattle.mrp_plant_view.specs.declared.view.OutgoingLane.{OutgoingLane}
use Rattle.mrp_plant_view.specs.View.{PlantRows}
use Rattle.mrp_record.specs.declared.record.Record.{Record}
use Rattle.mrp_record.specs.declared.record.Record.TheVariants.{Line, ItemEnd, Reset, Close}
use Rattle.mrp_book.specs.Figures.{Figures}
use Rattle.mrp_record.specs.Cursor.{OutFigures}
use Rattle.mrp_record.specs.Next.{stepped, queued}
use Rattle.mrp_readiness.specs.declared.join.Join.{Join}
use Rattle.mrp_readiness.specs.Counts.{AreCounts, IsOneEnded}
use Rattle.mrp_readiness.specs.Progress.{Progress, left_of}
use Rattle.mrp_agent.specs.State.{AgentState, incoming_at, out_at, no_out, no_outgoing}
use Rattle.mrp_agent.specs.Sending.{left_at}
use Rattle.mrp_agent.specs.Shows.{up_to_last}

-- ---- sent

-- the cursor of a lane has gone on
abbrev pub after_sent : AgentState → ℕ → AgentState
after_sent A k = record A { outs = slice_set A.outs k (stepped (out_at A k) (left_at A k)) }

-- ---- booked

-- an amount with pieces added
abbrev pub added_at : List ℕ → ℕ → ℕ → List ℕ
added_at amounts at quantity = slice_set amounts at (up_to_last (slice_index amounts at + quantity))

abbrev pub added_for : List ℕ → ℕ → ℕ → ℕ → Option ℕ → List ℕ
added_for amounts periods period quantity None = amounts
added_for amounts periods period quantity (Some place) = added_at amounts (place * periods + period) quantity

-- the place of an item in a list of them
abbrev pub place_among : List ItemNo → ItemNo → Option ℕ
place_among items item = position (λ i. i.0 == item.0) items

-- a line's pieces are added at the place of its item and in its period
abbrev pub with_line : List ItemNo → ℕ → List ℕ → Record → List ℕ
with_line items periods amounts (Line number item period quantity cumulative) =
    if nat_lt period periods then added_for amounts periods period quantity (place_among items item) else amounts
with_line items periods amounts (ItemEnd number item lines cumulative) = amounts
with_line items periods amounts (Reset number item closed) = amounts
with_line items periods amounts (Close number) = amounts

-- the items of the plant's pairs, by place
abbrev pub items_of : PlantRows → List ItemNo
items_of V = map (λ p. p.item) V.pairs

-- on a despatch lane it comes in, on a schedule lane it is called for
abbrev pub receipts_after : LaneKind → PlantRows → List ℕ → Record → List ℕ
receipts_after Despatch V receipts r = with_line (items_of V) V.horizon receipts r
receipts_after Schedule V receipts r = receipts

abbrev pub demand_after : LaneKind → PlantRows → List ℕ → Record → List ℕ
demand_after Despatch V demand r = demand
demand_after Schedule V demand r = with_line (items_of V) V.horizon demand r

-- the place of the pair whose awaited block ends with the record
abbrev pub ended_place : List ItemNo → Record → Option ℕ
ended_place items (Line number item period quantity cumulative) = None
ended_place items (ItemEnd number item lines cumulative) = place_among items item
ended_place items (Reset number item closed) = None
ended_place items (Close number) = None

-- one block of that pair fewer is open, or none
abbrev pub Falls : Option ℕ → (ℕ → ℕ) → (ℕ → ℕ) → Type 0
Falls None before after = (y : ℕ) → after y ≡ before y
Falls (Some y) before after = IsOneEnded y before after

-- a pair waits for something
pub record IsAwaited (progress : Progress) (y : ℕ) : Type 0 where
  pub known : y < length progress.waits
  pub waits : 0 < slice_index progress.waits y

-- each pair waits for one block fewer where one has ended
pub record BlockEnded (place : Option ℕ) (old new : Progress) : Type 0 where
  pub numbers : new.numbers ≡ old.numbers
  pub planned : new.planned ≡ old.planned
  pub size : length new.waits ≡ length old.waits
  pub others : (y : ℕ) → Contains old.ready y → Contains new.ready y
  pub counts : (joins : List Join) (before after : ℕ → ℕ) → Falls place before after
      → AreCounts old.waits joins old.planned before → AreCounts new.waits joins new.planned after

abbrev pub after_booked : AgentState → ℕ → Record → Figures → Progress → AgentState
after_booked A k r book progress = record A {
  books = slice_set A.books k book;
  scheduled_receipts = receipts_after (incoming_at A.view k).kind A.view A.scheduled_receipts r;
  outside_demand = demand_after (incoming_at A.view k).kind A.view A.outside_demand r;
  progress = progress;
}

-- ---- settled

-- on a schedule lane that has the item its place is queued
abbrev pub queued_at : OutFigures → Option ℕ → OutFigures
queued_at o None = o
queued_at o (Some place) = queued o place

abbrev pub queued_by : LaneKind → List ItemNo → OutFigures → ItemNo → OutFigures
queued_by Despatch items o item = o
queued_by Schedule items o item = queued_at o (place_among items item)

abbrev pub settled_out : OutgoingLane → OutFigures → ItemNo → OutFigures
settled_out lane o item = queued_by lane.kind (map (λ i. i.item) lane.items) o item

-- each cursor by its lane
pub record AreOutsSettled (lanes : List OutgoingLane) (item : ItemNo) (old new : List OutFigures) : Type 0 where
  pub size : length new ≡ length old
  pub each : (k : ℕ) → k < length lanes → slice_index_or new k no_out
      ≡ settled_out (slice_index_or lanes k no_outgoing) (slice_index_or old k no_out) item

-- the pair is planned, and its components wait for it no more
pub record PairSettled (joins : List Join) (place : ℕ) (old new : Progress) : Type 0 where
  pub numbers : new.numbers ≡ old.numbers
  pub planned : new.planned ≡ slice_set old.planned place true
  pub left : left_of new.planned + 1 ≡ left_of old.planned
  pub size : length new.waits ≡ length old.waits
  pub others : (y : ℕ) → Contains old.ready y → (y ≡ place → ⊥) → Contains new.ready y
  pub counts : (blocks : ℕ → ℕ) → AreCounts old.waits joins old.planned blocks
      → AreCounts new.waits joins new.planned blocks

abbrev pub after_settled : AgentState → ℕ → PlanRows → Progress → List OutFigures → AgentState
after_settled A place plan progress outs = record A {
  plans = slice_set A.plans place plan;
  progress = progress;
  outs = outs;
}
