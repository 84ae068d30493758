-- Records of a lane: what a list of them says of one item beside its figures, which is its deliveries, its lines, its
-- next period, whether its block is open.
use Rattle.std.specs.Prelude.{ℕ, ◌+◌, ◌&&◌, nat_lt, not, Bool, true, false, List, length, filter_map, fold, count_by}
use Rattle.std.specs.Prelude.{Option, Some, None}
use Rattle.std.specs.List.{list_any}
use Rattle.mrp_record.specs.Entries.{Entry, LineOf, EndOf, ResetOf, Closing, Delivery, entries_of, is_ended}

abbrev pub is_line : Entry → Bool
is_line (LineOf item period quantity cumulative) = true
is_line (EndOf item lines cumulative) = false
is_line (ResetOf item closed) = false
is_line Closing = false

abbrev pub is_reset : Entry → Bool
is_reset (LineOf item period quantity cumulative) = false
is_reset (EndOf item lines cumulative) = false
is_reset (ResetOf item closed) = true
is_reset Closing = false

-- the deliveries of its lines, in order
abbrev pub entry_delivery : Entry → Option Delivery
entry_delivery (LineOf item period quantity cumulative) = Some (record { period = period; quantity = quantity })
entry_delivery (EndOf item lines cumulative) = None
entry_delivery (ResetOf item closed) = None
entry_delivery Closing = None

abbrev pub deliveries : ℕ → List Entry → List Delivery
deliveries item entries = filter_map entry_delivery (entries_of item entries)

-- how many lines it has
abbrev pub line_count : ℕ → List Entry → ℕ
line_count item entries = count_by is_line (entries_of item entries)

-- the first period after that of its last line; 0 without a line
abbrev pub next_after : ℕ → Entry → ℕ
next_after next (LineOf item period quantity cumulative) = period + 1
next_after next (EndOf item lines cumulative) = next
next_after next (ResetOf item closed) = next
next_after next Closing = next

abbrev pub next_period : ℕ → List Entry → ℕ
next_period item entries = fold next_after 0 (entries_of item entries)

-- its figures have started anew; its block has ended; its block has begun and hasn't ended
abbrev pub was_reset : ℕ → List Entry → Bool
was_reset item entries = list_any is_reset (entries_of item entries)

abbrev pub is_open : ℕ → List Entry → Bool
is_open item entries = nat_lt 0 (length (entries_of item entries)) && not (is_ended item entries)
