-- Records of a lane: the items by which a list of them is in form, each once.
use Rattle.std.proofs.Common.{◌≡◌, ℕ, ◌+◌, ◌<◌, ◌==◌, Bool, true, false, cond, zero, suc, Some, List, [], ◌∷◌, ◌++◌, inl, inr, refl, sym, ◌∙◌, ap, length}
use Rattle.std.proofs.Common.{get_or, arith}
use Rattle.std.specs.List.{All, AllByRecursion, Contains, IsDistinct, find, list_any}
use Rattle.std.specs.List.Sorted.{IsPermutation}
use Rattle.std.proofs.lemmas.Bool.{cases_Bool, eqb-true, eqb-false, ne_eqb, false≢true, or_parts}
use Rattle.std.proofs.lemmas.List.Elements.{All-nil, All-cons, All-contains, All-from_recursion}
use Rattle.std.proofs.lemmas.List.Sums.{sum_by-append}
use Rattle.std.proofs.lemmas.List.Sorted.{sum_by-IsPermutation}
use Rattle.mrp_record.specs.Form.{FormItem}
use Rattle.mrp_record.specs.Laws.{is_same_form_item}
use Rattle.mrp_record.proofs.Once as once
use Rattle.mrp_record.proofs.Once.{key_count}

-- ---- an item that is found

contains_first : {X : Type 0} (x y : X) (xs : List X) → x ≡ y → Contains (x ∷ xs) y
contains_first x y xs e = (0, (omega arith), e)

contains_later : {X : Type 0} (x y : X) (xs : List X) → Contains xs y → Contains (x ∷ xs) y
contains_later x y xs h = (suc h.0, (omega (arith, h.1)), h.2)

-- the item that is found has the number and is one of the items
found : (items : List FormItem) (item : ℕ) (i : FormItem) → find (λ j. j.item == item) items ≡ Some i → (i.item ≡ item) × Contains items i
found [] item i e = absurd (cc)
found (j ∷ items) item i e =
    elim (cases_Bool (j.item == item)) [
      | inl here ↦
          let some : Some j ≡ Some i = rw here at e in
          let one : j ≡ i = cc in
          (ap (λ (z : FormItem). z.item) (sym one) ∙ eqb-true j.item item here, contains_first j i items one)
      | inr other ↦
          let later : find (λ (j : FormItem). j.item == item) items ≡ Some i = rw other at e in
          let rest = found items item i later in
          (rest.0, contains_later j i items rest.1)
    ]

pub item_is : (items : List FormItem) (item : ℕ) (i : FormItem) → find (λ j. j.item == item) items ≡ Some i → i.item ≡ item
item_is items item i e = (found items item i e).0

pub found_in : (items : List FormItem) (item : ℕ) (i : FormItem) → find (λ j. j.item == item) items ≡ Some i → Contains items i
found_in items item i e = (found items item i e).1

pub none_at : {X : Type 0} (p : X → Bool) (xs : List X) → list_any p xs ≡ false → All (λ x. p x ≡ false) xs
none_at {X} p [] h = All-nil (λ (x : X). p x ≡ false)
none_at {X} p (x ∷ xs) h =
    let parts = or_parts (p x) (list_any p xs) h in
    All-cons (λ (y : X). p y ≡ false) x xs parts.0 (none_at p xs parts.1)

-- ---- each item once

pub found_self : (items : List FormItem) (i : FormItem) → IsDistinct is_same_form_item items → Contains items i → find (λ j. j.item == i.item) items ≡ Some i
unfolding IsDistinct
found_self [] i once there = absurd (omega (arith, there.1))
found_self (j ∷ items) i once there =
    elim (cases_Bool (j.item == i.item)) [
      | inl same ↦
          elim there.0 as (λ k. k < suc (length items) → get_or (j ∷ items) k i ≡ i → find (λ (z : FormItem). z.item == i.item) (j ∷ items) ≡ Some i) [
            | zero ↦ λ l e. rw same (ap (λ (z : FormItem). Some z) e)
            | suc k ↦ λ l e. absurd (apart j items i once.0 (k, (omega (arith, l)), e) same)
          ]
          there.1
          there.2
      | inr other ↦
          elim there.0 as (λ k. k < suc (length items) → get_or (j ∷ items) k i ≡ i → find (λ (z : FormItem). z.item == i.item) (j ∷ items) ≡ Some i) [
            | zero ↦ λ l e. absurd (eqb-false j.item i.item other (ap (λ (z : FormItem). z.item) e))
            | suc k ↦ λ l e. rw other (found_self items i once.1 (k, (omega (arith, l)), e))
          ]
          there.1
          there.2
    ]
  where
    apart : (j : FormItem) (items : List FormItem) (i : FormItem) → AllByRecursion (λ other. is_same_form_item j other ≡ false) items → Contains items i
        → (j.item == i.item) ≡ true → ⊥
    apart j items i all there same =
        let all' : All (λ (other : FormItem). is_same_form_item j other ≡ false) items =
        All-from_recursion (λ (other : FormItem). is_same_form_item j other ≡ false) items all in
        let no : (j.item == i.item) ≡ false = All-contains (λ (other : FormItem). is_same_form_item j other ≡ false) items i all' there in
        false≢true (sym no ∙ same)

abbrev item_count : ℕ → List FormItem → ℕ
item_count item items = key_count (λ i. i.item) item items

count_own : (item : ℕ) (j : FormItem) (items : List FormItem) → j.item ≡ item → item_count item (j ∷ items) ≡ suc (item_count item items)
count_own = once.count_own (λ i. i.item)

none_counted : (item : ℕ) (items : List FormItem) → item_count item items ≡ 0 → All (λ j. (item == j.item) ≡ false) items
none_counted item [] h = All-nil (λ (j : FormItem). (item == j.item) ≡ false)
none_counted item (j ∷ items) h =
    elim (cases_Bool (j.item == item)) [
      | inl own ↦ absurd (omega (arith, count_own item j items (eqb-true j.item item own)))
      | inr apart ↦
          All-cons (λ (k : FormItem). (item == k.item) ≡ false) j items (ne_eqb item j.item (λ e. eqb-false j.item item apart (sym e)))
          (none_counted item items (sym (once.count_other (λ i. i.item) item j items apart) ∙ h))
    ]

-- after an item in any order of the items the others are apart from it
pub apart_after : (items done todo : List FormItem) (i : FormItem) → IsDistinct is_same_form_item items → IsPermutation items (done ++ i ∷ todo)
    → All (λ j. (i.item == j.item) ≡ false) todo
apart_after items done todo i distinct order =
    let few = once.at_most_one (λ i. i.item) i.item items distinct in
    let same = sum_by-IsPermutation (λ (j : FormItem). cond (j.item == i.item) 1 0) items (done ++ i ∷ todo) order in
    let parts = sum_by-append (λ (j : FormItem). cond (j.item == i.item) 1 0) done (i ∷ todo) in
    none_counted i.item todo (omega (arith, few, same, parts, count_own i.item i todo refl))
