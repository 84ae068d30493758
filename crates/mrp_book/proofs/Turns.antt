-- The book: what its checks of a record say of the first fault, and what booking the record keeps.
use Rattle.std.proofs.Common.{◌≡◌, ℕ, ◌+◌, ◌<◌, ◌≤◌, ◌==◌, false, Ok, Some, None, Option, List, [], ◌∷◌, ◌++◌, refl, sym, ◌∙◌, ap, subst, length, map, get_or}
use Rattle.std.proofs.Common.{set, zero, suc, arith}
use Rattle.std.specs.Prelude.{slice_get, nat_lt}
use Rattle.std.specs.List.{All}
use Rattle.std.proofs.lemmas.Bool.{not-false, eqb-true, ltb-false, or_parts}
use Rattle.std.proofs.lemmas.List.Elements.{All-set, All-weaker, All-get_or}
use Rattle.std.proofs.lemmas.Option.{get_or_from_slice_get, slice_get_read}
use Rattle.mrp_qty.specs.declared.quantity.TheConstants.{MOST}
use Rattle.mrp_master_data.specs.declared.numbers.ItemNo.{ItemNo}
use Rattle.mrp_book.specs.declared.fault.BookFault.{BookFault}
use Rattle.mrp_book.specs.declared.item.ItemFigure.{ItemFigure}
use Rattle.mrp_book.specs.After.{at_item, figure_after_line, with_end, figure_after_reset, IsBook, IsFigureWithin}
use Rattle.mrp_book.specs.Faults.{Test, first_of, number_tests, tests_of_item, find_item, line_tests, end_tests, reset_tests, IsInTurn}
use Rattle.mrp_book.specs.Figures.{Figures}
use Rattle.mrp_book.proofs.Places.{first_passed, first_of-ok, changed_at, shown_at}

-- no test of a table holds
abbrev pub NoneHolds : List Test → Type 0
NoneHolds [] = Unit {0}
NoneHolds (t ∷ ts) = (t.holds ≡ false) × NoneHolds ts

pub none_holds : (ts : List Test) → first_of ts ≡ None → NoneHolds ts
none_holds [] e = tt
none_holds (t ∷ ts) e =
    let passed = first_passed t ts e in
    (passed.0, none_holds ts passed.1)

-- ---- a book with one item changed

names_kept : (items : List ItemFigure) (k : ℕ) (g h : ItemFigure) → slice_get items k ≡ Some g → h.item ≡ g.item
    → map (λ i. i.item) (set items k h) ≡ map (λ i. i.item) items
names_kept [] k g h at same = refl
names_kept (x ∷ items) zero g h at same =
    let is : x ≡ g = cc in
    ap (λ (n : ItemNo). n ∷ map (λ i. i.item) items) (same ∙ ap (λ (i : ItemFigure). i.item) (sym is))
names_kept (x ∷ items) (suc k) g h at same = ap (λ (z : List ItemNo). x.item ∷ z) (names_kept items k g h at same)

book_kept : (next : ℕ) (names : List ItemNo) (items : List ItemFigure) (k : ℕ) (g h : ItemFigure) → IsBook next names items → slice_get items k ≡ Some g
    → h.item ≡ g.item → next ≤ MOST
    → IsFigureWithin (next + 1) h → IsBook (next + 1) names (set items k h)
book_kept next names items k g h kept at same small within =
    let wider : (i : ItemFigure) → IsFigureWithin next i → IsFigureWithin (next + 1) i = λ i w. record { figure = w.figure; lines = omega (arith, w.lines) } in
    record {
      small = omega (arith, small);
      names_are = kept.names_are ∙ sym (names_kept items k g h at same);
      within = All-set (IsFigureWithin (next + 1)) items k h within (All-weaker (IsFigureWithin next) (IsFigureWithin (next + 1)) wider items kept.within);
    }

within_at : (next : ℕ) (items : List ItemFigure) (k : ℕ) (g : ItemFigure) → k < length items → All (IsFigureWithin next) items → slice_get items k ≡ Some g
    → IsFigureWithin next g
within_at next items k g l all at =
    subst (IsFigureWithin next) (get_or_from_slice_get items k g g at) (All-get_or (IsFigureWithin next) items k g l all)

-- ---- a record of an item whose turn it is

-- the number is the next one, and the figures of the item stand at its place, in the book and in what it shows
pub record InTurn (mine book : Figures) (number item k : ℕ) (g : ItemFigure) : Type 0 where
  pub same : mine ≡ book
  pub fresh : first_of (number_tests book number) ≡ None
  pub turn : IsInTurn (Ok k) book item
  pub inside : k < length mine.items
  pub here : slice_get mine.items k ≡ Some g
  pub at : slice_get book.items k ≡ Some g

pub item_in_turn : (mine book : Figures) (number item k : ℕ) (g : ItemFigure) → mine ≡ book → first_of (number_tests book number) ≡ None
    → IsInTurn (Ok k) book item → g ≡ get_or mine.items k g → InTurn mine book number item k g
item_in_turn mine book number item k g same fresh turn read =
    let items : mine.items ≡ book.items = ap (λ (f : Figures). f.items) same in
    let inside : k < length mine.items = omega (arith, ap length items, turn.1) in
    let here : slice_get mine.items k ≡ Some g = slice_get_read mine.items (length mine.items) k g refl inside read in
    record { same = same; fresh = fresh; turn = turn; inside = inside; here = here; at = shown_at mine book k g same turn.1 read }

-- the figures after a record of an item
abbrev pub advanced : Figures → Option ℕ → List ItemFigure → Figures
advanced f begun items = record f { next = f.next + 1; begun = begun; items = items }

module _ {mine book : Figures} {number item k : ℕ} {g : ItemFigure} (t : InTurn mine book number item k g) where
  -- the first fault is that of the record's own tests
  pub own_fault : (tests : ItemFigure → List Test) (o : Option BookFault) → first_of (tests g) ≡ o
      → first_of (number_tests book number ++ tests_of_item (find_item book.items item) book.begun item tests) ≡ o
  own_fault tests o own =
      first_of-ok (number_tests book number) (tests_of_item (find_item book.items item) book.begun item tests) t.fresh ∙ t.turn.2 tests g t.at ∙ own

  -- the tests of a line by the kind and the horizon that the book shows
  pub shown_line_tests : (horizon period quantity cumulative : ℕ) (o : Option BookFault) → horizon ≡ mine.horizon
      → first_of (line_tests mine.rising horizon number period quantity cumulative g) ≡ o
      → first_of (line_tests book.rising book.horizon number period quantity cumulative g) ≡ o
  shown_line_tests horizon period quantity cumulative o e is =
      ap (λ (b : Figures). first_of (line_tests b.rising b.horizon number period quantity cumulative g)) (sym t.same)
      ∙ ap (λ (m : ℕ). first_of (line_tests mine.rising m number period quantity cumulative g)) (sym e)
      ∙ is

  number_is_next : number ≡ mine.next
  number_is_next =
      let none : NoneHolds (number_tests book number) = none_holds (number_tests book number) t.fresh in
      omega (arith, ltb-false number book.next none.0, ltb-false book.next number none.1.0, ap (λ (f : Figures). f.next) t.same)

  -- what is read again and changed is the same item, changed
  changed_is : (again h : ItemFigure) (change : ItemFigure → ItemFigure) → again ≡ get_or mine.items k again → h ≡ change again → h ≡ change g
  changed_is again h change read is =
      let second : slice_get mine.items k ≡ Some again = slice_get_read mine.items (length mine.items) k again refl t.inside read in
      let one : again ≡ g = cc (t.here, second) in
      is ∙ ap change one

  -- the figures after it
  pub booked : (again h : ItemFigure) (change : ItemFigure → ItemFigure) (begun : Option ℕ) → again ≡ get_or mine.items k again → h ≡ change again
      → advanced mine begun (set mine.items k h) ≡ advanced book begun (at_item item change book.items)
  booked again h change begun read is =
      let items : set mine.items k h ≡ at_item item change book.items =
      ap (λ (f : Figures). set f.items k h) t.same ∙ ap (set book.items k) (changed_is again h change read is)
      ∙ changed_at item change book.items k g t.turn.0 t.at in
      ap (λ (f : Figures). advanced f begun (set mine.items k h)) t.same ∙ ap (λ (z : List ItemFigure). advanced book begun z) items

  kept : (names : List ItemNo) (again h : ItemFigure) (change : ItemFigure → ItemFigure) → IsBook mine.next names mine.items → again ≡ get_or mine.items k again
      → h ≡ change again
      → (change g).item ≡ g.item → number ≤ MOST → (IsFigureWithin mine.next g → IsFigureWithin (mine.next + 1) (change g))
      → IsBook (mine.next + 1) names (set mine.items k h)
  kept names again h change was read is same small within =
      let changed : h ≡ change g = changed_is again h change read is in
      let w : IsFigureWithin (mine.next + 1) (change g) = within (within_at mine.next mine.items k g t.inside was.within t.here) in
      book_kept mine.next names mine.items k g h was t.here (ap (λ (i : ItemFigure). i.item) changed ∙ same) (omega (arith, small, number_is_next))
      (subst (IsFigureWithin (mine.next + 1)) (sym changed) w)

  pub line_kept : (names : List ItemNo) (again h : ItemFigure) (period quantity cumulative : ℕ) → IsBook mine.next names mine.items
      → again ≡ get_or mine.items k again → h ≡ figure_after_line period quantity again
      → first_of (line_tests book.rising book.horizon number period quantity cumulative g) ≡ None → IsBook (mine.next + 1) names (set mine.items k h)
  line_kept names again h period quantity cumulative was read is free =
      let tests = line_tests book.rising book.horizon number period quantity cumulative g in
      let none : NoneHolds tests = none_holds tests free in
      let figure : cumulative ≡ g.figure + quantity = eqb-true cumulative (g.figure + quantity) (not-false (cumulative == g.figure + quantity) none.1.1.0) in
      let sizes = or_parts (nat_lt MOST number) (nat_lt MOST (cumulative + g.closed)) none.1.1.1.0 in
      let all : cumulative + g.closed ≤ MOST = ltb-false MOST (cumulative + g.closed) sizes.1 in
      kept names again h (figure_after_line period quantity) was read is refl (ltb-false MOST number sizes.0)
      (λ w. record { figure = omega (arith, all, figure); lines = omega (arith, w.lines) })

  pub end_kept : (names : List ItemNo) (again h : ItemFigure) (lines cumulative : ℕ) → IsBook mine.next names mine.items → again ≡ get_or mine.items k again
      → h ≡ with_end again
      → first_of (end_tests number lines cumulative g) ≡ None → IsBook (mine.next + 1) names (set mine.items k h)
  end_kept names again h lines cumulative was read is free =
      let none : NoneHolds (end_tests number lines cumulative g) = none_holds (end_tests number lines cumulative g) free in
      kept names again h with_end was read is refl (ltb-false MOST number none.0) (λ w. record { figure = w.figure; lines = omega (arith, w.lines) })

  pub reset_kept : (names : List ItemNo) (again h : ItemFigure) (closed : ℕ) → IsBook mine.next names mine.items → again ≡ get_or mine.items k again
      → h ≡ figure_after_reset again
      → first_of (reset_tests number closed g) ≡ None → IsBook (mine.next + 1) names (set mine.items k h)
  reset_kept names again h closed was read is free =
      let none : NoneHolds (reset_tests number closed g) = none_holds (reset_tests number closed g) free in
      kept names again h figure_after_reset was read is refl (ltb-false MOST number none.0)
      (λ w. record { figure = omega (arith, w.figure); lines = omega (arith, w.lines) })
