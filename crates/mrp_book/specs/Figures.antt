-- The book of a lane's receiver: what it keeps of a list of records, and which lists it shows.
use Rattle.std.specs.Prelude.{◌≡◌, ℕ, ◌+◌, ◌≤◌, ◌==◌, Bool, List, length, map, fold, All, Option, Some}
use Rattle.std.specs.Prelude.{None}
use Rattle.std.specs.List.{IsDistinct}
use Rattle.mrp_record.specs.Laws.{is_same_form_item}
use Rattle.mrp_qty.specs.declared.quantity.TheConstants.{MOST}
use Rattle.mrp_net.specs.declared.lane.LaneKind.{LaneKind}
use Rattle.mrp_net.specs.LaneLaws.{is_schedule}
use Rattle.mrp_record.specs.declared.record.Record.{Record}
use Rattle.mrp_record.specs.Entries.{Entry, LineOf, EndOf, ResetOf, Closing, contents, is_ended, is_closed, in_force}
use Rattle.mrp_record.specs.Blocks.{line_count, next_period, was_reset}
use Rattle.mrp_record.specs.Entries.{closed_by}
use Rattle.mrp_record.specs.Form.{FormItem, LaneForm, IsInForm}
use Rattle.mrp_book.specs.declared.item.BookItem.{BookItem}
use Rattle.mrp_book.specs.declared.item.ItemFigure.{ItemFigure}

-- The figures of a lane: its kind and horizon, the number of the next record, whether it is closed, the
-- item whose block has begun and isn't ended, and the figures of its items.
pub record Figures : Type 0 where
  pub rising : Bool
  pub horizon : ℕ
  pub next : ℕ
  pub closed : Bool
  pub begun : Option ℕ
  pub items : List ItemFigure

-- the figures that a list of records gives
abbrev pub figure_of : List Entry → FormItem → ItemFigure
figure_of entries i = record {
  item = record { 0 = i.item };
  reset = i.reset;
  figure = in_force i.opening i.item entries;
  closed = closed_by i.item entries;
  lines = line_count i.item entries;
  next_period = next_period i.item entries;
  was_reset = was_reset i.item entries;
  ended = is_ended i.item entries;
}

-- the item of the last record, unless that ends its block
abbrev pub begun_by : Entry → Option ℕ
begun_by (LineOf item period quantity cumulative) = Some item
begun_by (EndOf item lines cumulative) = None
begun_by (ResetOf item closed) = Some item
begun_by Closing = None

abbrev pub begun : List Entry → Option ℕ
begun entries = fold (λ _ e. begun_by e) None entries

abbrev pub figures : LaneForm → List Record → Figures
figures form records = record {
  rising = form.rising;
  horizon = form.horizon;
  next = length records + 1;
  closed = is_closed (contents records);
  begun = begun (contents records);
  items = map (figure_of (contents records)) form.items;
}

-- a lane has each item once, and no opening figure is above 10^15
pub record IsForm (form : LaneForm) : Type 0 where
  pub once : IsDistinct is_same_form_item form.items
  pub openings : All (λ i. i.opening ≤ MOST) form.items

-- a book shows a list in form where its figures are those that the list gives
pub record BookShows (form : LaneForm) (book : Figures) (records : List Record) : Type 0 where
  pub lane : IsForm form
  pub in_form : IsInForm form records
  pub is : book ≡ figures form records

-- the form of a lane of that kind with these items
abbrev pub book_form_item : BookItem → FormItem
book_form_item i = record { item = i.item.0; opening = i.opening; reset = i.reset }

abbrev pub book_form : LaneKind → ℕ → List BookItem → LaneForm
book_form kind horizon items = record { rising = is_schedule kind; horizon = horizon; items = map book_form_item items }

abbrev pub is_same_book_item : BookItem → BookItem → Bool
is_same_book_item a b = a.item.0 == b.item.0
