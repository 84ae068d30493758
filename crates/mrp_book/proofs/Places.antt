-- The book: the place of an item among those that it has.
use Rattle.std.proofs.Common.{◌≡◌, ℕ, ◌<◌, ◌==◌, Bool, true, false, cond, ltb, ◌||◌, Some, None, Option, List, [], ◌∷◌, ◌++◌, inl, inr, ◌+◌, refl, sym, ◌∙◌, ap}
use Rattle.std.proofs.Common.{subst, length, map, get_or, set, zero, suc, arith}
use Rattle.std.specs.Prelude.{slice_get, position}
use Rattle.std.specs.List.{find, position_or_len}
use Rattle.std.proofs.lemmas.Bool.{cases_Bool, ltb-true, ltb-false}
use Rattle.std.proofs.lemmas.Option.{slice_get_past, slice_get_read}
use Rattle.std.proofs.lemmas.List.Folds.{find_at}
use Rattle.mrp_master_data.specs.declared.numbers.ItemNo.{ItemNo}
use Rattle.mrp_master_data.specs.contracts.numbers.ItemNoPartialEq.TheImpl.{eq-value}
use Rattle.mrp_master_data.proofs.Keys.{position_keys, same_test}
use Rattle.mrp_book.specs.declared.fault.BookFault.{BookFault}
use Rattle.mrp_book.specs.declared.fault.BookFault.TheVariants as fault
use Rattle.mrp_book.specs.declared.item.ItemFigure.{ItemFigure}
use Rattle.mrp_book.specs.After.{at_item}
use Rattle.mrp_book.specs.Faults.{Test, first_of, tests_of_item, find_item, is_other_begun}
use Rattle.mrp_book.specs.Figures.{Figures}

-- a place that is looked for is inside the list or past its end
abbrev place_at : ℕ → ℕ → Option ℕ
place_at n len = cond (ltb n len) (Some n) None

pub found_nowhere : {X : Type 0} (p : X → Bool) (xs : List X) → position p xs ≡ None → find p xs ≡ None
found_nowhere {X} p xs e =
    elim (cases_Bool (ltb (position_or_len p xs) (length xs))) [
      | inl inside ↦ absurd (cc (rw inside at e))
      | inr past ↦ find_at p xs ∙ slice_get_past xs (position_or_len p xs) (ltb-false (position_or_len p xs) (length xs) past)
    ]

pub found_at : {X : Type 0} (p : X → Bool) (xs : List X) (k : ℕ) → position p xs ≡ Some k → (k < length xs) × (find p xs ≡ slice_get xs k)
found_at {X} p xs k e =
    elim (cases_Bool (ltb (position_or_len p xs) (length xs))) [
      | inl inside ↦
          let some : Some (position_or_len p xs) ≡ Some k = rw inside at e in
          let same : position_or_len p xs ≡ k = cc in
          (omega (arith, ltb-true (position_or_len p xs) (length xs) inside), find_at p xs ∙ ap (slice_get xs) same)
      | inr past ↦ absurd (cc (rw past at e))
    ]

-- the place of an item by the names
pub place_of_item : (item : ItemNo) (names : List ItemNo) (items : List ItemFigure) → names ≡ map (λ g. g.item) items
    → position (eq-value.it item) names ≡ position (λ g. g.item.0 == item.0) items
place_of_item item names items same =
    ap (position (eq-value.it item)) same ∙ position_keys (λ (g : ItemFigure). g.item) _ (λ g. g.item.0 == item.0) (λ g. same_test item.0 g.item.0) items

-- ---- tests

-- where no test holds, neither the first nor a later one does
pub first_passed : (x : Test) (xs : List Test) → first_of (x ∷ xs) ≡ None → (x.holds ≡ false) × (first_of xs ≡ None)
first_passed x xs e =
    elim (cases_Bool x.holds) [
      | inl here ↦
          let is : Some x.fault ≡ None = rw here at e in
          absurd (cc is)
      | inr other ↦
          let later : first_of xs ≡ None = rw other at e in
          (other, later)
    ]

pub first_of-ok : (xs ys : List Test) → first_of xs ≡ None → first_of (xs ++ ys) ≡ first_of ys
first_of-ok [] ys e = refl
first_of-ok (x ∷ xs) ys e =
    let passed = first_passed x xs e in
    let other = passed.0 in
    rw other (first_of-ok xs ys passed.1)

pub not_on_lane : (items : List ItemFigure) (begun : Option ℕ) (item : ℕ) → position (λ g. g.item.0 == item) items ≡ None
    → (tests : ItemFigure → List Test) → first_of (tests_of_item (find_item items item) begun item tests) ≡ Some fault.NotOnLane
not_on_lane items begun item e tests =
    ap (λ (o : Option ItemFigure). first_of (tests_of_item o begun item tests)) (found_nowhere (λ (g : ItemFigure). g.item.0 == item) items e)

pub found_figure : (items : List ItemFigure) (item k : ℕ) (g : ItemFigure) → position (λ g. g.item.0 == item) items ≡ Some k → slice_get items k ≡ Some g
    → find_item items item ≡ Some g
found_figure items item k g e at = (found_at (λ (g : ItemFigure). g.item.0 == item) items k e).1 ∙ at

pub out_of_turn : (items : List ItemFigure) (begun : Option ℕ) (item k : ℕ) (g : ItemFigure) → position (λ g. g.item.0 == item) items ≡ Some k
    → slice_get items k ≡ Some g
    → (g.ended || is_other_begun begun item) ≡ true
    → (tests : ItemFigure → List Test) → first_of (tests_of_item (find_item items item) begun item tests) ≡ Some fault.AfterItemEnd
out_of_turn items begun item k g e at wrong tests =
    let parts : first_of (tests_of_item (Some g) begun item tests) ≡ Some fault.AfterItemEnd = rw wrong refl in
    ap (λ (o : Option ItemFigure). first_of (tests_of_item o begun item tests)) (found_figure items item k g e at) ∙ parts

pub in_turn : (items : List ItemFigure) (begun : Option ℕ) (item k : ℕ) (g : ItemFigure) → position (λ g. g.item.0 == item) items ≡ Some k
    → slice_get items k ≡ Some g
    → (g.ended || is_other_begun begun item) ≡ false
    → (tests : ItemFigure → List Test) (h : ItemFigure) → slice_get items k ≡ Some h
    → first_of (tests_of_item (find_item items item) begun item tests) ≡ first_of (tests h)
in_turn items begun item k g e at right tests h here =
    let same : g ≡ h = cc in
    let parts : first_of (tests_of_item (Some g) begun item tests) ≡ first_of (tests g) = rw right refl in
    ap (λ (o : Option ItemFigure). first_of (tests_of_item o begun item tests)) (found_figure items item k g e at) ∙ parts
    ∙ ap (λ (i : ItemFigure). first_of (tests i)) same

-- ---- a figure changed at its place

pub changed_at : (item : ℕ) (change : ItemFigure → ItemFigure) (items : List ItemFigure) (k : ℕ) (g : ItemFigure)
    → position (λ g. g.item.0 == item) items ≡ Some k → slice_get items k ≡ Some g
    → set items k (change g) ≡ at_item item change items
changed_at item change items k g e at =
    let some = found_at (λ (g : ItemFigure). g.item.0 == item) items k e in
    by items k g (place_is items k e) at
  where
    place_is : (items : List ItemFigure) (k : ℕ) → position (λ g. g.item.0 == item) items ≡ Some k → position_or_len (λ g. g.item.0 == item) items ≡ k
    place_is items k e =
        elim (cases_Bool (ltb (position_or_len (λ (g : ItemFigure). g.item.0 == item) items) (length items))) [
          | inl inside ↦
              let some : Some (position_or_len (λ (g : ItemFigure). g.item.0 == item) items) ≡ Some k = rw inside at e in
              cc
          | inr past ↦ absurd (cc (rw past at e))
        ]

    by : (items : List ItemFigure) (k : ℕ) (g : ItemFigure) → position_or_len (λ g. g.item.0 == item) items ≡ k → slice_get items k ≡ Some g
        → set items k (change g) ≡ at_item item change items
    by [] k g e at = refl
    by (x ∷ items) zero g e at =
        elim (cases_Bool (x.item.0 == item)) [
          | inl own ↦
              let same : x ≡ g = cc in
              rw own (ap (λ (z : ItemFigure). change z ∷ items) (sym same))
          | inr other ↦
              let far : 1 + position_or_len (λ (g : ItemFigure). g.item.0 == item) items ≡ 0 = rw other at e in
              absurd (omega (arith, far))
        ]
    by (x ∷ items) (suc k) g e at =
        elim (cases_Bool (x.item.0 == item)) [
          | inl own ↦
              let near : 0 ≡ suc k = rw own at e in
              absurd (omega (arith, near))
          | inr other ↦
              let far : 1 + position_or_len (λ (g : ItemFigure). g.item.0 == item) items ≡ suc k = rw other at e in
              rw other (ap (λ (z : List ItemFigure). x ∷ z) (by items k g (omega (arith, far)) at))
        ]

-- the figures of an item as a book shows them
pub shown_at : (mine book : Figures) (k : ℕ) (g : ItemFigure) → mine ≡ book → k < length book.items → g ≡ get_or mine.items k g
    → slice_get book.items k ≡ Some g
shown_at mine book k g same within read =
    let items : mine.items ≡ book.items = ap (λ (f : Figures). f.items) same in
    let inside : k < length mine.items = omega (arith, ap length items, within) in
    subst (λ (z : List ItemFigure). slice_get z k ≡ Some g) items (slice_get_read mine.items (length mine.items) k g refl inside read)
