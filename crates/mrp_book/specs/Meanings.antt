-- The book: what each of its twelve faults says of a record, after a list of records on a lane of a known form.
-- Each stands alone, whatever the others say; of an item that isn't on the lane one says anything, since an
-- earlier one says that it isn't.
use Rattle.std.specs.Prelude.{ℕ, ◌+◌, ◌==◌, ◌&&◌, ◌||◌, nat_lt, nat_le, not, Bool, false, List, [], ◌∷◌, length, find}
use Rattle.std.specs.Prelude.{Option, None, is_some, option_map, unwrap_or}
use Rattle.std.specs.List.{list_any}
use Rattle.mrp_qty.specs.declared.quantity.TheConstants.{MOST}
use Rattle.mrp_record.specs.declared.record.Record.{Record}
use Rattle.mrp_record.specs.Entries.{Entry, LineOf, EndOf, ResetOf, Closing, number_of, content, contents, is_ended}
use Rattle.mrp_record.specs.Blocks.{line_count, next_period, was_reset}
use Rattle.mrp_record.specs.Entries.{is_closed, in_force, closed_by}
use Rattle.mrp_record.specs.Form.{LaneForm, item_on, is_anew, is_other_open}
use Rattle.mrp_book.specs.declared.fault.BookFault.{BookFault}
use Rattle.mrp_book.specs.declared.fault.BookFault.TheVariants as fault

-- ---- what is known of an item

-- its opening figure, and the period from which its figures start anew, if they do
abbrev pub opening_of : LaneForm → ℕ → ℕ
opening_of form item = unwrap_or (option_map (λ i. i.opening) (item_on form item)) 0

abbrev pub reset_of : LaneForm → ℕ → Option ℕ
reset_of form item = unwrap_or (option_map (λ i. i.reset) (item_on form item)) None

-- its figure in force
abbrev pub figure_in_force : LaneForm → ℕ → List Entry → ℕ
figure_in_force form item before = in_force (opening_of form item) item before

-- ---- records of an item

-- the record is of an item of which the test holds; the closing record is of none
abbrev pub is_of_item : (ℕ → Bool) → Entry → Bool
is_of_item test (LineOf item period quantity cumulative) = test item
is_of_item test (EndOf item lines cumulative) = test item
is_of_item test (ResetOf item closed) = test item
is_of_item test Closing = false

-- the item isn't on the lane
abbrev pub is_off_lane : LaneForm → ℕ → Bool
is_off_lane form item = not (is_some (item_on form item))

-- its block is ended, or another one is open
abbrev pub is_out_of_turn : LaneForm → List Entry → ℕ → Bool
is_out_of_turn form before item = is_ended item before || is_other_open form item before

-- ---- lines

-- the period isn't below the horizon or, on a schedule lane, not above that of the item's last line
abbrev pub is_period_wrong : LaneForm → List Entry → Entry → Bool
is_period_wrong form before (LineOf item period quantity cumulative) =
    not (nat_lt period form.horizon) || (form.rising && nat_lt period (next_period item before))
is_period_wrong form before other = false

abbrev pub is_of_nothing : Entry → Bool
is_of_nothing (LineOf item period quantity cumulative) = quantity == 0
is_of_nothing other = false

-- the figure isn't the one in force and the line's pieces
abbrev pub is_cum_wrong : LaneForm → List Entry → Entry → Bool
is_cum_wrong form before (LineOf item period quantity cumulative) =
    not (cumulative == figure_in_force form item before + quantity)
is_cum_wrong form before other = false

-- with the closed years added the figure is above 10^15
abbrev pub is_cum_large : List Entry → Entry → Bool
is_cum_large before (LineOf item period quantity cumulative) = nat_lt MOST (cumulative + closed_by item before)
is_cum_large before other = false

-- ---- ends, the closing record and resets

-- an item end counts other lines than have come, or repeats another figure than the one in force
abbrev pub is_end_wrong : LaneForm → List Entry → Entry → Bool
is_end_wrong form before (EndOf item lines cumulative) =
    not (lines == line_count item before) || not (cumulative == figure_in_force form item before)
is_end_wrong form before other = false

-- a closing record while an item's end is missing
abbrev pub is_close_early : LaneForm → List Entry → Entry → Bool
is_close_early form before Closing = list_any (λ i. not (is_ended i.item before)) form.items
is_close_early form before other = false

-- a line of the old figures after the reset or of the new ones before it, an item end without the reset that is
-- awaited, or a reset that isn't awaited, has come or closes another figure than the one in force
abbrev pub is_reset_wrong : LaneForm → List Entry → Entry → Bool
is_reset_wrong form before (LineOf item period quantity cumulative) =
    (was_reset item before && not (is_anew (reset_of form item) period))
    || (is_anew (reset_of form item) period && not (was_reset item before))
is_reset_wrong form before (EndOf item lines cumulative) = is_some (reset_of form item) && not (was_reset item before)
is_reset_wrong form before (ResetOf item closed) =
    not (is_some (reset_of form item)) || was_reset item before || not (closed == figure_in_force form item before)
is_reset_wrong form before Closing = false

-- ---- all faults

-- the record has the fault
abbrev pub has : LaneForm → List Record → Record → BookFault → Bool
has form records r fault.Repeated = nat_le (number_of r) (length records)
has form records r fault.Gap = nat_lt (length records + 1) (number_of r)
has form records r fault.AfterClose = is_closed (contents records)
has form records r fault.NotOnLane = is_of_item (is_off_lane form) (content r)
has form records r fault.AfterItemEnd = is_of_item (is_out_of_turn form (contents records)) (content r)
has form records r fault.PeriodWrong = is_period_wrong form (contents records) (content r)
has form records r fault.QuantityZero = is_of_nothing (content r)
has form records r fault.CumWrong = is_cum_wrong form (contents records) (content r)
has form records r fault.TooLarge = nat_lt MOST (number_of r) || is_cum_large (contents records) (content r)
has form records r fault.EndWrong = is_end_wrong form (contents records) (content r)
has form records r fault.CloseEarly = is_close_early form (contents records) (content r)
has form records r fault.ResetWrong = is_reset_wrong form (contents records) (content r)

-- all faults, in the order in which they are looked for
abbrev pub all_faults : List BookFault
all_faults =
    fault.Repeated ∷ fault.Gap ∷ fault.AfterClose ∷ fault.NotOnLane ∷ fault.AfterItemEnd ∷ fault.PeriodWrong ∷
    fault.QuantityZero ∷ fault.CumWrong ∷ fault.TooLarge ∷ fault.EndWrong ∷ fault.CloseEarly ∷ fault.ResetWrong ∷ []

-- the first of them that a record has, if it has one
abbrev pub first_had : LaneForm → List Record → Record → Option BookFault
first_had form records r = find (has form records r) all_faults
