-- Records of a lane: what they say apart from their numbers, and what a list of them says of one item.
use Rattle.std.specs.Prelude.{ℕ, ◌+◌, ◌==◌, Bool, true, false, List, map, filter, fold, sum_by}
use Rattle.std.specs.List.{list_any}
use Rattle.mrp_record.specs.declared.record.Record.{Record}
use Rattle.mrp_record.specs.declared.record.Record.TheVariants.{Line, ItemEnd, Reset, Close}

-- a record without its number
pub data Entry : Type 0 where
  LineOf : (item period quantity cumulative : ℕ) → Entry
  EndOf : (item lines cumulative : ℕ) → Entry
  ResetOf : (item closed : ℕ) → Entry
  Closing : Entry

abbrev pub number_of : Record → ℕ
number_of (Line number item period quantity cumulative) = number
number_of (ItemEnd number item lines cumulative) = number
number_of (Reset number item closed) = number
number_of (Close number) = number

abbrev pub content : Record → Entry
content (Line number item period quantity cumulative) = LineOf item.0 period quantity cumulative
content (ItemEnd number item lines cumulative) = EndOf item.0 lines cumulative
content (Reset number item closed) = ResetOf item.0 closed
content (Close number) = Closing

abbrev pub contents : List Record → List Entry
contents records = map content records

-- a delivery: so many pieces in a period
pub record Delivery : Type 0 where
  pub period : ℕ
  pub quantity : ℕ

-- ---- the records of one item

abbrev pub is_of : ℕ → Entry → Bool
is_of item (LineOf i period quantity cumulative) = i == item
is_of item (EndOf i lines cumulative) = i == item
is_of item (ResetOf i closed) = i == item
is_of item Closing = false

abbrev pub entries_of : ℕ → List Entry → List Entry
entries_of item entries = filter (is_of item) entries

abbrev pub is_end : Entry → Bool
is_end (LineOf item period quantity cumulative) = false
is_end (EndOf item lines cumulative) = true
is_end (ResetOf item closed) = false
is_end Closing = false

abbrev pub is_closing : Entry → Bool
is_closing (LineOf item period quantity cumulative) = false
is_closing (EndOf item lines cumulative) = false
is_closing (ResetOf item closed) = false
is_closing Closing = true

abbrev pub is_ended : ℕ → List Entry → Bool
is_ended item entries = list_any is_end (entries_of item entries)

-- the lane is closed
abbrev pub is_closed : List Entry → Bool
is_closed entries = list_any is_closing entries

-- ---- its figures

-- the pieces of its lines
abbrev pub quantity_of : Entry → ℕ
quantity_of (LineOf item period quantity cumulative) = quantity
quantity_of (EndOf item lines cumulative) = 0
quantity_of (ResetOf item closed) = 0
quantity_of Closing = 0

abbrev pub moved : ℕ → List Entry → ℕ
moved item entries = sum_by quantity_of (entries_of item entries)

-- the figure in force: the opening figure and the lines since, or after a reset the lines since that
abbrev pub figure_after : ℕ → Entry → ℕ
figure_after figure (LineOf item period quantity cumulative) = figure + quantity
figure_after figure (EndOf item lines cumulative) = figure
figure_after figure (ResetOf item closed) = 0
figure_after figure Closing = figure

abbrev pub in_force : ℕ → ℕ → List Entry → ℕ
in_force opening item entries = fold figure_after opening (entries_of item entries)

-- the figures closed by resets
abbrev pub closed_of : Entry → ℕ
closed_of (LineOf item period quantity cumulative) = 0
closed_of (EndOf item lines cumulative) = 0
closed_of (ResetOf item closed) = closed
closed_of Closing = 0

abbrev pub closed_by : ℕ → List Entry → ℕ
closed_by item entries = sum_by closed_of (entries_of item entries)

-- the cumulative figure: the figure in force, and what resets have closed
abbrev pub cum : ℕ → ℕ → List Entry → ℕ
cum opening item entries = in_force opening item entries + closed_by item entries
