-- Records of a lane: which one a cursor sends next, by what is left of the item at its
-- head, and the cursor after a step.
use Rattle.std.specs.Prelude.{◌≡◌, ℕ, ◌+◌, ◌-◌, ◌^◌, nat_lt, min, not, ◌&&◌, ◌||◌, if◌then◌else◌, Bool, true, false}
use Rattle.std.specs.Prelude.{List, [], ◌∷◌, ◌++◌, length, slice_get}
use Rattle.std.specs.Prelude.{Option, Some, None, is_some}
use Rattle.mrp_record.specs.declared.record.Record.{Record}
use Rattle.mrp_record.specs.declared.record.Record.TheVariants.{Line, ItemEnd, Reset, Close}
use Rattle.mrp_record.specs.Entries.{Delivery}
use Rattle.mrp_record.specs.Form.{is_anew}
use Rattle.mrp_record.specs.declared.remainder.Due.{Due}
use Rattle.mrp_record.specs.declared.remainder.Due.TheVariants.{Moving, Restarting, Ending}
use Rattle.mrp_record.specs.declared.remainder.NextLine.{NextLine}
use Rattle.mrp_record.specs.declared.remainder.Remainder.{Remainder}
use Rattle.mrp_record.specs.Cursor.{OutFigures, Goods}

-- ---- what is left

-- the next delivery is the first from the mark on, and the others are left from the mark after it
abbrev pub IsNextLine : (ℕ → List Delivery) → ℕ → Option NextLine → Type 0
IsNextLine from mark None = from mark ≡ []
IsNextLine from mark (Some line) = from mark ≡ record { period = line.period; quantity = line.quantity }
    ∷ from line.after

-- what is left of the goods of a place from a mark on
pub record IsRemainder (g : Goods) (mark : ℕ) (left : Remainder) : Type 0 where
  pub item : left.item.0 ≡ g.item
  pub opening : left.opening ≡ g.opening
  pub reset : left.reset ≡ g.reset
  pub line : IsNextLine g.from mark left.line

-- what is left of the goods at the head, or nothing where all queued blocks are sent
abbrev pub IsWhatIsLeft : (ℕ → Goods) → OutFigures → Option Remainder → Type 0
IsWhatIsLeft goods o None = slice_get o.queue o.head ≡ None
IsWhatIsLeft goods o (Some left) =
    (place : ℕ) × (slice_get o.queue o.head ≡ Some place) × IsRemainder (goods place) o.mark left

-- ---- the next record

-- a reset comes before the first line of the new figures, and before the end
abbrev pub is_reset_due : Option ℕ → Option NextLine → Bool
is_reset_due reset None = is_some reset
is_reset_due reset (Some line) = is_anew reset line.period

abbrev pub line_due : Option NextLine → Due
line_due None = Ending
line_due (Some line) = Moving line

abbrev pub due : Bool → Remainder → Due
due anew left = if not anew && is_reset_due left.reset left.line then Restarting else line_due left.line

-- numbers and figures are added up to 2^64 - 1
abbrev pub added : ℕ → ℕ → ℕ
added a b = min (a + b) (2 ^ 64 - 1)

-- the figure in force, after so many pieces, where the item opened with so many
abbrev pub figure_said : Bool → ℕ → ℕ → ℕ
figure_said anew moved opening = if anew then moved else added opening moved

abbrev pub record_due : OutFigures → Remainder → Due → Record
record_due o left (Moving line) =
    Line o.next left.item line.period line.quantity (added (figure_said o.anew o.moved left.opening) line.quantity)
record_due o left Restarting = Reset o.next left.item (figure_said o.anew o.moved left.opening)
record_due o left Ending = ItemEnd o.next left.item o.lines (figure_said o.anew o.moved left.opening)

-- a record of the block at the head or, where none is left and all are sent, the closing record
abbrev pub next_record : OutFigures → Option Remainder → Option Record
next_record o None = if o.closed || nat_lt o.head o.size then None else Some (Close o.next)
next_record o (Some left) = Some (record_due o left (due o.anew left))

-- ---- steps

-- after a record of the block at the head
abbrev pub stepped_by : OutFigures → Due → OutFigures
stepped_by o (Moving line) =
    record o { next = added o.next 1; mark = line.after; lines = added o.lines 1; moved = added o.moved line.quantity }
stepped_by o Restarting = record o { next = added o.next 1; moved = 0; anew = true }
stepped_by o Ending =
    record o {
      next = added o.next 1;
      head = min (o.head + 1) (length o.queue);
      mark = 0;
      lines = 0;
      moved = 0;
      anew = false;
    }

-- after the next record
abbrev pub stepped : OutFigures → Option Remainder → OutFigures
stepped o None = record o { next = added o.next 1; closed = true }
stepped o (Some left) = stepped_by o (due o.anew left)

-- with one more place of the lane in the queue, if there is room
abbrev pub queued : OutFigures → ℕ → OutFigures
queued o place =
    if nat_lt place o.size && nat_lt (length o.queue) o.size then record o { queue = o.queue ++ place ∷ [] } else o
