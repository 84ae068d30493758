-- The agent: which sent lists, taken lists and planned pairs it shows. `sent` and `taken` have the records of each
-- lane by the lane's number, `planned` says which pairs are planned, by the pair's number.
use Rattle.std.specs.Prelude.{◌≡◌, ◌↔◌, ℕ, ◌+◌, ◌-◌, ◌<◌, ◌^◌, ◌==◌, ◌&&◌, min, Bool, List, length, map, Contains}
use Rattle.std.specs.List.{flat_map, list_all}
use Rattle.mrp_net.specs.declared.lane.LaneKind.TheVariants.{Schedule}
use Rattle.mrp_plant_view.specs.declared.view.IncomingItem.{IncomingItem}
use Rattle.mrp_plant_view.specs.declared.view.IncomingLane.{IncomingLane}
use Rattle.mrp_plant_view.specs.declared.view.PlantEdge.{PlantEdge}
use Rattle.mrp_plant_view.specs.declared.view.PlantPair.{PlantPair}
use Rattle.mrp_plant_view.specs.View.{PlantRows}
use Rattle.mrp_record.specs.declared.record.Record.{Record}
use Rattle.mrp_record.specs.Entries.{contents, is_ended}
use Rattle.mrp_record.specs.Form.{LaneForm}
use Rattle.mrp_book.specs.declared.item.BookItem.{BookItem}
use Rattle.mrp_book.specs.Figures as book
use Rattle.mrp_record.specs.Shows.{ShowsSent}
use Rattle.mrp_readiness.specs.declared.join.Join.{Join}
use Rattle.mrp_readiness.specs.Counts.{Awaited, AreCounts, open_blocks}
use Rattle.mrp_readiness.specs.Progress.{is_planned, left_of}
use Rattle.mrp_protocol.specs.LocalPlans.{amount_at, booked_on, local_incoming, IsLocal}
use Rattle.mrp_agent.specs.State.{AgentState, incoming_at, outgoing_at, book_at, out_at, pair_place, plans_of}
use Rattle.mrp_protocol.specs.Goods.{goods_of, IsSendable}

-- ---- books

-- the form of the lists of a lane that comes in
abbrev pub book_item : IncomingItem → BookItem
book_item i = record { item = i.item; opening = i.opening; reset = i.reset }

abbrev pub form_of : PlantRows → IncomingLane → LaneForm
form_of V lane = book.book_form lane.kind V.horizon (map book_item lane.items)

-- the book of each lane shows what was taken
abbrev pub BooksShow : AgentState → (ℕ → List Record) → Type 0
BooksShow A taken =
    (k : ℕ) → k < length A.view.incoming
    → book.BookShows (form_of A.view (incoming_at A.view k)) (book_at A k) (taken (incoming_at A.view k).number.0)

-- ---- what pairs wait for

-- the edges of the plant, by places
abbrev pub join_of : PlantRows → PlantEdge → Join
join_of V e = record { component = pair_place V e.component.0; demander = pair_place V e.parent.0 }

abbrev pub joins_of : PlantRows → List Join
joins_of V = map (join_of V) V.edges

-- the blocks that come in, each awaited by the plant's pair of its item
abbrev pub block_awaited : PlantRows → (ℕ → List Record) → IncomingLane → IncomingItem → Awaited
block_awaited V taken lane i = record {
  pair = pair_place V i.pair.0;
  ended = is_ended i.item.0 (contents (taken lane.number.0));
}

abbrev pub awaited_on : PlantRows → (ℕ → List Record) → IncomingLane → List Awaited
awaited_on V taken lane = map (block_awaited V taken lane) lane.items

abbrev pub awaited : PlantRows → (ℕ → List Record) → List Awaited
awaited V taken = flat_map (awaited_on V taken) V.incoming

-- each pair waits for its unplanned parents and for the blocks that haven't ended
abbrev pub Awaits : AgentState → (ℕ → List Record) → Type 0
Awaits A taken = AreCounts A.progress.waits (joins_of A.view) A.progress.planned (open_blocks (awaited A.view taken))

-- ---- sums

-- sums are added up to 2^64 - 1
abbrev pub up_to_last : ℕ → ℕ
up_to_last sum = min sum (2 ^ 64 - 1)

-- what comes in at its time and what is asked for beside the parents, as far as it has come
abbrev pub HasScheduledReceipts : AgentState → (ℕ → List Record) → PlantPair → Type 0
HasScheduledReceipts A taken p = (t : ℕ) → t < A.view.horizon → amount_at A.view A.scheduled_receipts p.number t
    ≡ up_to_last (local_incoming A.view taken p t)

abbrev pub HasOutsideDemand : AgentState → (ℕ → List Record) → PlantPair → Type 0
HasOutsideDemand A taken p =
    (t : ℕ) → t < A.view.horizon
    → amount_at A.view A.outside_demand p.number t ≡ up_to_last
    (amount_at A.view A.view.demands p.number t + booked_on Schedule A.view taken p.item t)

-- ---- cursors

-- the cursor of a lane shows what was sent, and queued are the places that may be sent
pub record OutShows (A : AgentState) (sent taken : ℕ → List Record) (planned : ℕ → Bool) (k : ℕ) : Type 0 where
  pub size : (out_at A k).size ≡ length (outgoing_at A.view k).items
  pub shows : ShowsSent (goods_of A.view taken (plans_of A) (outgoing_at A.view k)) (out_at A k)
      (sent (outgoing_at A.view k).number.0)
  pub queued : (j : ℕ) → Contains (out_at A k).queue j ↔ IsSendable planned (outgoing_at A.view k) j

-- ---- all of it

pub record ShowsHistory (A : AgentState) (sent taken : ℕ → List Record) (planned : ℕ → Bool) : Type 0 where
  pub books : BooksShow A taken
  pub waits : Awaits A taken
  pub scheduled_receipts : (p : PlantPair) → Contains A.view.pairs p → HasScheduledReceipts A taken p
  pub outside_demand : (p : PlantPair) → Contains A.view.pairs p → HasOutsideDemand A taken p
  pub planned_are : (p : PlantPair) → Contains A.view.pairs p
      → planned p.number.0 ≡ is_planned A.progress.planned (pair_place A.view p.number.0)
  pub local : IsLocal A.view taken planned (plans_of A)
  pub outs : (k : ℕ) → k < length A.view.outgoing → OutShows A sent taken planned k

-- ---- done

-- all pairs are planned, and all lanes are closed, those that come in and those that go out
abbrev pub is_done : AgentState → Bool
is_done A = (left_of A.progress.planned == 0) && list_all (λ b. b.closed) A.books && list_all (λ o. o.closed) A.outs
