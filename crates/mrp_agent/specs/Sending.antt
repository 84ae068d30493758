-- The agent: what it sends next on a lane, by the lane's place.
use Rattle.std.specs.Prelude.{ℕ, ◌-◌, ◌+◌, ◌≤◌, List, [], ◌∷◌, ◌++◌, length, map, find, slice_index, slice_get, Option}
use Rattle.std.specs.Prelude.{None, Some, option_map}
use Rattle.std.specs.List.{range_with_len}
use Rattle.mrp_net.specs.declared.lane.LaneKind.{LaneKind}
use Rattle.mrp_net.specs.declared.lane.LaneKind.TheVariants.{Despatch, Schedule}
use Rattle.mrp_net.specs.declared.lane.Shipment.{Shipment}
use Rattle.mrp_plant_view.specs.declared.view.Call.{Call}
use Rattle.mrp_plant_view.specs.declared.view.OutgoingLane.{OutgoingLane}
use Rattle.mrp_plant_view.specs.declared.view.OutgoingItem.{OutgoingItem}
use Rattle.mrp_plant_view.specs.Loads.{OutgoingLoad, bare, call_of, load_at}
use Rattle.mrp_record.specs.declared.record.Record.{Record}
use Rattle.mrp_record.specs.Entries.{Delivery, content}
use Rattle.mrp_record.specs.Laws.{AreLoads}
use Rattle.mrp_record.specs.Text as lane
use Rattle.mrp_record.specs.Text.{IsBeginning}
use Rattle.mrp_protocol.specs.Loads.{delivery_in, has_pieces}
use Rattle.mrp_book.specs.declared.item.ItemFigure.{ItemFigure}
use Rattle.mrp_book.specs.Faults.{find_item}
use Rattle.mrp_book.specs.Figures.{Figures}
use Rattle.mrp_record.specs.declared.remainder.NextLine.{NextLine}
use Rattle.mrp_record.specs.declared.remainder.Remainder.{Remainder}
use Rattle.mrp_record.specs.Cursor.{Goods}
use Rattle.mrp_record.specs.CursorLaws.{Agrees, IsBounded, MaySend}
use Rattle.mrp_record.specs.Next.{next_record}
use Rattle.mrp_protocol.specs.Goods.{goods_of, share}
use Rattle.mrp_agent.specs.declared.sending.NextOut.{NextOut}
use Rattle.mrp_agent.specs.State.{AgentState, book_at, out_at, incoming_place, outgoing_at, plans_of}

-- the cumulative figure of an item in a book
abbrev pub booked_figure : Option ItemFigure → ℕ
booked_figure None = 0
booked_figure (Some g) = g.figure + g.closed

abbrev pub figure_in : Figures → ℕ → ℕ
figure_in book item = booked_figure (find_item book.items item)

-- the first shipment from a mark on
abbrev pub shipment_line : ℕ → Shipment → NextLine
shipment_line mark s = record { period = s.period; quantity = s.quantity; after = mark + 1 }

abbrev pub next_shipment : List Shipment → ℕ → Option NextLine
next_shipment shipments mark = option_map (shipment_line mark) (slice_get shipments mark)

-- the first period from a mark on in which there is something to call for
abbrev pub call_line : Delivery → NextLine
call_line line = record { period = line.period; quantity = line.quantity; after = line.period + 1 }

-- the supplier's share of a release of the customer's
abbrev pub called_by : List ℕ → Call → ℕ → ℕ
called_by release call period = share call (slice_index release period)

abbrev pub next_called : List ℕ → Call → ℕ → Option NextLine
next_called release call mark =
    option_map call_line (find has_pieces (map (delivery_in (called_by release call))
    (range_with_len mark (length release - mark))))

-- a share of thousandths
pub record IsCallShare (call : Call) : Type 0 where
  pub rises : call.low ≤ call.high
  pub ends : call.high ≤ 1000

abbrev pub left_to_ship : OutgoingLoad → ℕ → Remainder
left_to_ship load mark = record {
  item = load.item;
  opening = load.figure;
  reset = load.reset;
  line = next_shipment load.shipments mark;
}

abbrev pub left_to_call : Figures → List ℕ → OutgoingItem → Call → ℕ → Remainder
left_to_call before release item call mark =
    record {
      item = item.item;
      opening = figure_in before item.item.0;
      reset = item.reset;
      line = next_called release call mark;
    }

-- what is left of the item at a place from a mark on
abbrev pub remainder_by : LaneKind → AgentState → OutgoingLane → OutgoingLoad → ℕ → Remainder
remainder_by Despatch A lane load mark = left_to_ship load mark
remainder_by Schedule A lane load mark =
    left_to_call (book_at A (incoming_place A.view (lane.number.0 - 1))) (plans_of A (call_of load).customer.0).release
    (bare load) (call_of load) mark

abbrev pub remainder : AgentState → OutgoingLane → ℕ → ℕ → Remainder
remainder A lane mark place = remainder_by lane.kind A lane (load_at lane.items place) mark

-- what is left of the item at the head
abbrev pub left_at : AgentState → ℕ → Option Remainder
left_at A k = option_map (remainder A (outgoing_at A.view k) (out_at A k).mark)
    (slice_get (out_at A k).queue (out_at A k).head)

-- the record that is sent next
abbrev pub next_out : AgentState → ℕ → Option Record
next_out A k = next_record (out_at A k) (left_at A k)

-- with what is left before it
abbrev pub handed : Option Remainder → Record → NextOut
handed left r = record { entry = r; left = left }

abbrev pub next_at : AgentState → ℕ → Option NextOut
next_at A k = option_map (handed (left_at A k)) (next_out A k)

-- ---- what is given to send

-- the goods of the lane at a place
abbrev pub goods_at : AgentState → (ℕ → List Record) → ℕ → ℕ → Goods
goods_at A taken k = goods_of A.view taken (plans_of A) (outgoing_at A.view k)

-- the records and figures of the lane stay below 2^64, as those of a sized network do
abbrev pub IsWithin64 : AgentState → (ℕ → List Record) → ℕ → Type 0
IsWithin64 A taken k = IsBounded (goods_at A taken k) (out_at A k)

-- the record may be sent, and it continues what was sent to a legal beginning, whatever lane has these goods
abbrev pub ContinuesSent : AgentState → (ℕ → List Record) → (ℕ → List Record) → ℕ → Record → Type 0
ContinuesSent A sent taken k r =
    (loads : List lane.Load) → Agrees (goods_at A taken k) (out_at A k) loads
    → IsBeginning loads (sent (outgoing_at A.view k).number.0 ++ r ∷ [])
    × MaySend (goods_at A taken k) (out_at A k) (content r)

-- no record that may be sent does so
abbrev pub NothingContinues : AgentState → (ℕ → List Record) → (ℕ → List Record) → ℕ → Type 0
NothingContinues A sent taken k =
    (loads : List lane.Load) → AreLoads loads → Agrees (goods_at A taken k) (out_at A k) loads
    → (r : Record) → MaySend (goods_at A taken k) (out_at A k) (content r)
    → IsBeginning loads (sent (outgoing_at A.view k).number.0 ++ r ∷ []) → ⊥
