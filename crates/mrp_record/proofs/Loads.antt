-- Records of a lane by its loads: each item has one, and the records of an item are those of its block.
use Rattle.std.proofs.Common.{◌≡◌, ℕ, ◌+◌, ◌<◌, ◌≤◌, ◌==◌, true, false, cond, zero, suc, Some, List, [], ◌∷◌, ◌++◌, ◌⊎◌, inl, inr, refl, sym, ◌∙◌, ap, subst}
use Rattle.std.proofs.Common.{length, get_or, map, arith}
use Rattle.std.specs.List.{Contains, flat_map, find}
use Rattle.std.specs.List.Sorted.{IsPermutation}
use Rattle.std.proofs.lemmas.Bool.{eq-eqb, eqb-true, cases_Bool}
use Rattle.std.proofs.lemmas.List.{append-nil}
use Rattle.std.proofs.lemmas.List.Elements.{filter-append}
use Rattle.std.proofs.lemmas.List.Sorted.{sum_by-IsPermutation, Contains-permutation}
use Rattle.mrp_record.specs.Entries.{Entry, Closing, is_of, entries_of}
use Rattle.mrp_record.specs.Form.{FormItem}
use Rattle.mrp_record.specs.Laws.{AreLoads, form_item}
use Rattle.mrp_record.specs.Text.{Load, block, text_of}
use Rattle.mrp_record.proofs.Once as once
use Rattle.mrp_record.proofs.Once.{key_count}
use Rattle.mrp_record.proofs.Own.{AllOf-block, own_kept, others_left}

-- how many loads an item has
abbrev pub load_count : ℕ → List Load → ℕ
load_count item loads = key_count (λ load. load.item) item loads

load_count-cons : (item : ℕ) (load : Load) (loads : List Load) → load_count item (load ∷ loads) ≡ cond (load.item == item) 1 0 + load_count item loads
load_count-cons = once.count_cons (λ load. load.item)

pub count_own : (item : ℕ) (load : Load) (loads : List Load) → load.item ≡ item → load_count item (load ∷ loads) ≡ suc (load_count item loads)
count_own = once.count_own (λ load. load.item)

pub count_other : (item : ℕ) (load : Load) (loads : List Load) → (load.item == item) ≡ false → load_count item (load ∷ loads) ≡ load_count item loads
count_other = once.count_other (λ load. load.item)

-- ---- members

abbrev pub In : Load → List Load → Type 0
In load [] = ⊥
In load (first ∷ loads) = (first ≡ load) ⊎ In load loads

pub In-from_at : (load : Load) (loads : List Load) (k : ℕ) → k < length loads → get_or loads k load ≡ load → In load loads
In-from_at load [] k l e = absurd (omega arith)
In-from_at load (first ∷ loads) zero l e = inl e
In-from_at load (first ∷ loads) (suc k) l e = inr (In-from_at load loads k (omega arith) e)

pub In-from_contains : (load : Load) (loads : List Load) → Contains loads load → In load loads
In-from_contains load loads h = In-from_at load loads h.0 h.1 h.2

pub In-append : (load : Load) (xs ys : List Load) → In load ys → In load (xs ++ ys)
In-append load [] ys h = h
In-append load (x ∷ xs) ys h = inr (In-append load xs ys h)

pub Contains-from_in : (load : Load) (loads : List Load) → In load loads → Contains loads load
Contains-from_in load [] h = absurd h
Contains-from_in load (first ∷ loads) h = elim h [
  | inl e ↦ (0, (omega arith), e)
  | inr g ↦ let at = Contains-from_in load loads g in (suc at.0, (omega (arith, at.1)), at.2)
]

pub In-permutation : (load : Load) (xs ys : List Load) → IsPermutation xs ys → In load xs → In load ys
In-permutation load xs ys h i = In-from_contains load ys (Contains-permutation xs ys load h (Contains-from_in load xs i))

pub count_member : (load : Load) (loads : List Load) → In load loads → 1 ≤ load_count load.item loads
count_member load [] h = absurd h
count_member load (first ∷ loads) h = elim h [
  | inl e ↦ omega (arith, count_own load.item first loads (ap (λ (l : Load). l.item) e))
  | inr g ↦ omega (arith, load_count-cons load.item first loads, count_member load loads g)
]

-- ---- an item has one load

pub at_most_one : (item : ℕ) (loads : List Load) → AreLoads loads → load_count item loads ≤ 1
at_most_one = once.at_most_one (λ load. load.item)

pub count_permuted : (item : ℕ) (loads order : List Load) → IsPermutation loads order → load_count item order ≡ load_count item loads
count_permuted item loads order h = sum_by-IsPermutation (λ (l : Load). cond (l.item == item) 1 0) loads order h

-- the item of a load is found among the items of the lane
pub item_found : (load : Load) (loads : List Load) → In load loads → load_count load.item loads ≤ 1
    → find (λ (i : FormItem). i.item == load.item) (map form_item loads) ≡ Some (form_item load)
item_found load [] h few = absurd h
item_found load (first ∷ loads) h few = elim h [
  | inl e ↦
      let own : (first.item == load.item) ≡ true = eq-eqb first.item load.item (ap (λ (l : Load). l.item) e) in
      rw own (ap (λ (l : Load). Some (form_item l)) e)
  | inr g ↦
      elim (cases_Bool (first.item == load.item)) [
        | inl own ↦ absurd (omega (arith, count_own load.item first loads (eqb-true first.item load.item own), count_member load loads g))
        | inr apart ↦ rw apart (item_found load loads g (omega (arith, count_other load.item first loads apart)))
      ]
]

-- ---- records of an item in blocks

pub no_block : (item : ℕ) (loads : List Load) → load_count item loads ≡ 0 → entries_of item (flat_map block loads) ≡ []
no_block item [] none = refl
no_block item (load ∷ loads) none =
    elim (cases_Bool (load.item == item)) [
      | inl own ↦ absurd (omega (arith, count_own item load loads (eqb-true load.item item own)))
      | inr apart ↦
          let rest : entries_of item (flat_map block loads) ≡ [] = no_block item loads (sym (count_other item load loads apart) ∙ none) in
          let mine : entries_of item (block load) ≡ [] = others_left load.item item (block load) (AllOf-block load) apart in
          filter-append (is_of item) (block load) (flat_map block loads) ∙ ap (λ (z : List Entry). z ++ entries_of item (flat_map block loads)) mine ∙ rest
    ]

-- the records of a load's item are its block
pub one_block : (load : Load) (loads : List Load) → In load loads → load_count load.item loads ≤ 1 → entries_of load.item (flat_map block loads) ≡ block load
one_block load [] h few = absurd h
one_block load (first ∷ loads) h few =
    let parts : entries_of load.item (flat_map block (first ∷ loads)) ≡ entries_of load.item (block first) ++ entries_of load.item (flat_map block loads) =
    filter-append (is_of load.item) (block first) (flat_map block loads) in
    elim h [
      | inl e ↦
          let is : first.item ≡ load.item = ap (λ (l : Load). l.item) e in
          let none : entries_of load.item (flat_map block loads) ≡ [] = no_block load.item loads (omega (arith, count_own load.item first loads is)) in
          let mine : entries_of first.item (block first) ≡ block first = own_kept first.item (block first) (AllOf-block first) in
          let same : entries_of load.item (block first) ≡ block first = subst (λ (i : ℕ). entries_of i (block first) ≡ block first) is mine in
          parts ∙ ap (λ (z : List Entry). entries_of load.item (block first) ++ z) none ∙ append-nil (entries_of load.item (block first)) ∙ same ∙ ap block e
      | inr g ↦
          elim (cases_Bool (first.item == load.item)) [
            | inl own ↦ absurd (omega (arith, count_own load.item first loads (eqb-true first.item load.item own), count_member load loads g))
            | inr apart ↦
                let theirs : entries_of load.item (block first) ≡ [] = others_left first.item load.item (block first) (AllOf-block first) apart in
                let rest = one_block load loads g (omega (arith, count_other load.item first loads apart)) in
                parts ∙ ap (λ (z : List Entry). z ++ entries_of load.item (flat_map block loads)) theirs ∙ rest
          ]
    ]

pub text_block : (load : Load) (loads : List Load) → In load loads → load_count load.item loads ≤ 1 → entries_of load.item (text_of loads) ≡ block load
text_block load loads h few =
    filter-append (is_of load.item) (flat_map block loads) (Closing ∷ []) ∙ append-nil (entries_of load.item (flat_map block loads))
    ∙ one_block load loads h few
