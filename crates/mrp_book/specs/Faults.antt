-- The book: for which fault it refuses a record, as a table of tests. The first that holds is answered.
use Rattle.std.specs.Prelude.{◌≡◌, ℕ, ◌+◌, ◌==◌, ◌&&◌, ◌||◌, nat_lt, nat_le, not, if◌then◌else◌, Bool, true, false}
use Rattle.std.specs.Prelude.{List, [], ◌∷◌, ◌++◌, find, length}
use Rattle.std.specs.Prelude.{position, slice_get, ◌<◌, Option, Some, None, is_some, Result, MatchResult}
use Rattle.std.specs.List.{list_all}
use Rattle.mrp_qty.specs.declared.quantity.TheConstants.{MOST}
use Rattle.mrp_record.specs.declared.record.Record.{Record}
use Rattle.mrp_record.specs.declared.record.Record.TheVariants.{Line, ItemEnd, Reset, Close}
use Rattle.mrp_record.specs.Entries.{number_of}
use Rattle.mrp_record.specs.Form.{is_anew}
use Rattle.mrp_book.specs.declared.fault.BookFault.{BookFault}
use Rattle.mrp_book.specs.declared.fault.BookFault.TheVariants as fault
use Rattle.mrp_book.specs.declared.item.ItemFigure.{ItemFigure}
use Rattle.mrp_book.specs.Figures.{Figures}

-- a test and the fault where it holds
pub record Test : Type 0 where
  pub holds : Bool
  pub fault : BookFault

abbrev pub test : Bool → BookFault → Test
test holds f = record { holds = holds; fault = f }

-- the fault of the first test that holds
abbrev pub first_of : List Test → Option BookFault
first_of [] = None
first_of (t ∷ ts) = if t.holds then Some t.fault else first_of ts

-- ---- numbers and the closing record

abbrev pub number_tests : Figures → ℕ → List Test
number_tests book number =
    test (nat_lt number book.next) fault.Repeated ∷
    test (nat_lt book.next number) fault.Gap ∷
    test book.closed fault.AfterClose ∷ []

-- ---- items

-- the figures of an item
abbrev pub find_item : List ItemFigure → ℕ → Option ItemFigure
find_item items item = find (λ g. g.item.0 == item) items

-- another item's block has begun
abbrev pub is_other_begun : Option ℕ → ℕ → Bool
is_other_begun None item = false
is_other_begun (Some begun) item = not (begun == item)

-- the tests of a record of an item: it is on the lane, its block goes on, and what the record itself asks
abbrev pub tests_of_item : Option ItemFigure → Option ℕ → ℕ → (ItemFigure → List Test) → List Test
tests_of_item None begun item tests = test true fault.NotOnLane ∷ []
tests_of_item (Some g) begun item tests = test (g.ended || is_other_begun begun item) fault.AfterItemEnd ∷ tests g

-- ---- lines

-- the period isn't below the horizon or, on a schedule lane, not after the last line's
abbrev pub period_is_wrong : Bool → ℕ → ItemFigure → ℕ → Bool
period_is_wrong rising horizon g period = nat_le horizon period || (rising && nat_lt period g.next_period)

abbrev pub cum_is_wrong : ItemFigure → ℕ → ℕ → Bool
cum_is_wrong g quantity cumulative = not (cumulative == g.figure + quantity)

abbrev pub is_too_large : ItemFigure → ℕ → ℕ → Bool
is_too_large g number cumulative = nat_lt MOST number || nat_lt MOST (cumulative + g.closed)

-- a line of the new figures before the reset, or of the old ones after it
abbrev pub is_side_wrong : ItemFigure → ℕ → Bool
is_side_wrong g period = if g.was_reset then not (is_anew g.reset period) else is_anew g.reset period

abbrev pub line_tests : Bool → ℕ → ℕ → ℕ → ℕ → ℕ → ItemFigure → List Test
line_tests rising horizon number period quantity cumulative g =
    test (period_is_wrong rising horizon g period) fault.PeriodWrong ∷
    test (quantity == 0) fault.QuantityZero ∷
    test (cum_is_wrong g quantity cumulative) fault.CumWrong ∷
    test (is_too_large g number cumulative) fault.TooLarge ∷
    test (is_side_wrong g period) fault.ResetWrong ∷ []

-- ---- item ends and resets

abbrev pub end_is_wrong : ItemFigure → ℕ → ℕ → Bool
end_is_wrong g lines cumulative = not (lines == g.lines) || not (cumulative == g.figure)

abbrev pub is_reset_missing : ItemFigure → Bool
is_reset_missing g = is_some g.reset && not g.was_reset

abbrev pub end_tests : ℕ → ℕ → ℕ → ItemFigure → List Test
end_tests number lines cumulative g =
    test (nat_lt MOST number) fault.TooLarge ∷
    test (end_is_wrong g lines cumulative) fault.EndWrong ∷
    test (is_reset_missing g) fault.ResetWrong ∷ []

-- none is awaited, it is booked already, or it closes another figure than the one in force
abbrev pub reset_is_wrong : ItemFigure → ℕ → Bool
reset_is_wrong g closed = not (is_some g.reset) || (g.was_reset || not (closed == g.figure))

abbrev pub reset_tests : ℕ → ℕ → ItemFigure → List Test
reset_tests number closed g =
    test (nat_lt MOST number) fault.TooLarge ∷
    test (reset_is_wrong g closed) fault.ResetWrong ∷ []

-- ---- the closing record

abbrev pub close_tests : Figures → ℕ → List Test
close_tests book number =
    test (nat_lt MOST number) fault.TooLarge ∷
    test (not (list_all (λ g. g.ended) book.items)) fault.CloseEarly ∷ []

-- ---- all records

abbrev pub own_tests : Figures → Record → List Test
own_tests book (Line number item period quantity cumulative) =
    tests_of_item (find_item book.items item.0) book.begun item.0
    (line_tests book.rising book.horizon number period quantity cumulative)
own_tests book (ItemEnd number item lines cumulative) =
    tests_of_item (find_item book.items item.0) book.begun item.0 (end_tests number lines cumulative)
own_tests book (Reset number item closed) = tests_of_item (find_item book.items item.0) book.begun item.0
    (reset_tests number closed)
own_tests book (Close number) = close_tests book number

abbrev pub first_fault : Figures → Record → Option BookFault
first_fault book r = first_of (number_tests book (number_of r) ++ own_tests book r)

-- the answer of a check: the fault of the first test that holds
abbrev pub Answers : Result (Unit {0}) BookFault → List Test → Type 0
Answers result tests = MatchResult result (λ _. first_of tests ≡ None) (λ f. first_of tests ≡ Some f)

-- the place of an item whose block may go on, or why it may not
abbrev pub IsInTurn : Result ℕ BookFault → Figures → ℕ → Type 0
IsInTurn result book item =
    MatchResult result
    (λ place.
    (position (λ g. g.item.0 == item) book.items ≡ Some place)
    × (place < length book.items)
    × ((tests : ItemFigure → List Test) (g : ItemFigure) → slice_get book.items place ≡ Some g
    → first_of (tests_of_item (find_item book.items item) book.begun item tests) ≡ first_of (tests g)))
    (λ f. (tests : ItemFigure → List Test) → first_of (tests_of_item (find_item book.items item) book.begun item tests)
    ≡ Some f)
