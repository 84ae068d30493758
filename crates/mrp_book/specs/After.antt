-- The book: its figures after one more record, or the fault for which it refuses the record.
use Rattle.std.specs.Prelude.{◌≡◌, ℕ, ◌+◌, ◌≤◌, ◌<◌, ◌==◌, if◌then◌else◌, true, false, List, [], ◌∷◌, map, All, Some}
use Rattle.std.specs.Prelude.{None, Result, MatchResult}
use Rattle.mrp_qty.specs.declared.quantity.TheConstants.{MOST}
use Rattle.mrp_master_data.specs.declared.numbers.ItemNo.{ItemNo}
use Rattle.mrp_record.specs.declared.record.Record.{Record}
use Rattle.mrp_record.specs.declared.record.Record.TheVariants.{Line, ItemEnd, Reset, Close}
use Rattle.mrp_book.specs.declared.fault.BookFault.{BookFault}
use Rattle.mrp_book.specs.declared.item.BookItem.{BookItem}
use Rattle.mrp_book.specs.declared.item.ItemFigure.{ItemFigure}
use Rattle.mrp_book.specs.Faults.{first_fault}
use Rattle.mrp_book.specs.Figures.{Figures}

-- the figures of an item after a line, its end or a reset
abbrev pub figure_after_line : ℕ → ℕ → ItemFigure → ItemFigure
figure_after_line period quantity g = record g {
  figure = g.figure + quantity;
  lines = g.lines + 1;
  next_period =
      period + 1;
}

abbrev pub with_end : ItemFigure → ItemFigure
with_end g = record g { ended = true }

abbrev pub figure_after_reset : ItemFigure → ItemFigure
figure_after_reset g = record g { figure = 0; closed = g.closed + g.figure; was_reset = true }

-- the items with the figures of one of them changed
abbrev pub at_item : ℕ → (ItemFigure → ItemFigure) → List ItemFigure → List ItemFigure
at_item item change [] = []
at_item item change (g ∷ gs) = if g.item.0 == item then change g ∷ gs else g ∷ at_item item change gs

abbrev pub after : Figures → Record → Figures
after book (Line number item period quantity cumulative) =
    record book {
      next = book.next + 1;
      begun = Some item.0;
      items =
          at_item item.0 (figure_after_line period quantity) book.items;
    }
after book (ItemEnd number item lines cumulative) =
    record book { next = book.next + 1; begun = None; items = at_item item.0 with_end book.items }
after book (Reset number item closed) = record book {
  next = book.next + 1;
  begun = Some item.0;
  items =
      at_item item.0 figure_after_reset book.items;
}
after book (Close number) = record book { next = book.next + 1; closed = true; begun = None }

-- a record is booked where no fault holds; else the first fault is answered and nothing changes
abbrev pub Books : Figures → Figures → Record → Result (Unit {0}) BookFault → Type 0
Books old new r result = MatchResult result (λ _. (first_fault old r ≡ None) × (new ≡ after old r))
    (λ f. (first_fault old r ≡ Some f) × (new ≡ old))

-- what stays true of the figures: nothing is above 10^15, and an item has no more lines than there are records
pub record IsFigureWithin (next : ℕ) (g : ItemFigure) : Type 0 where
  pub figure : g.figure + g.closed ≤ MOST
  pub lines : g.lines < next

pub record IsBook (number : ℕ) (names : List ItemNo) (figures : List ItemFigure) : Type 0 where
  pub small : number ≤ MOST + 1
  pub names_are : names ≡ map (λ g. g.item) figures
  pub within : All (IsFigureWithin number) figures

-- the figures of an item that a new book is given
abbrev pub opened : BookItem → ItemFigure
opened i = record {
  item = i.item;
  reset = i.reset;
  figure = i.opening;
  closed = 0;
  lines = 0;
  next_period = 0;
  was_reset = false;
  ended = false;
}
