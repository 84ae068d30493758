-- Readiness: ready pairs in slots, what an exchange of two leaves, which pairs are chosen and which are gone.
use Rattle.std.proofs.Common.{◌≡◌, ℕ, ◌+◌, ◌-◌, ◌<◌, ◌≤◌, List, [], ◌∷◌, ◌++◌, inl, inr, length, get_or, set, take, drop, map, refl, sym, ap, ◌∙◌, subst, arith}
use Rattle.std.specs.Prelude.{◌↔◌, swap, Contains}
use Rattle.std.specs.List.{range_with_len, slice_range}
use Rattle.std.proofs.lemmas.Bool.{cases_eq, cases_lt}
use Rattle.std.proofs.lemmas.List.{get_or-set_same, get_or-set_other, get_or-take, get_or-drop, get_or_default, get_or_read, get_or-map, length-set, length-map}
use Rattle.std.proofs.lemmas.List.{length-take-le, length-drop, take_more, take-set-le, drop-take, drop-append-le, ext_get_or}
use Rattle.std.proofs.lemmas.List.Edits.{swapped_from_swap, swap_is, length-swap}
use Rattle.std.proofs.lemmas.List.FromFn.{get_or-range_with_len, length-range_with_len, fill_by_all}
use Rattle.mrp_master_data.specs.declared.numbers.PairNo.{PairNo}
use Rattle.mrp_readiness.specs.Chosen.{AreApart, AreSlotted, Chosen, chosen, number_at, slots_after}

-- what is read after the exchange
record IsExchanged (places slots : List ℕ) (i j : ℕ) : Type 0 where
  first : get_or (swap places i j) i 0 ≡ get_or places j 0
  second : get_or (swap places i j) j 0 ≡ get_or places i 0
  others : (k : ℕ) → (k ≡ i → ⊥) → (k ≡ j → ⊥) → get_or (swap places i j) k 0 ≡ get_or places k 0
  slot_of_second : get_or (slots_after places slots i j) (get_or places j 0) 0 ≡ i
  slot_of_first : get_or (slots_after places slots i j) (get_or places i 0) 0 ≡ j
  other_slots : (x : ℕ) → (x ≡ get_or places i 0 → ⊥) → (x ≡ get_or places j 0 → ⊥) → get_or (slots_after places slots i j) x 0 ≡ get_or slots x 0

exchanged : (numbers : List PairNo) (places slots : List ℕ) (begin end i j : ℕ) → AreSlotted numbers places slots begin end → i < length slots
    → j < length slots → IsExchanged places slots i j
exchanged numbers places slots begin end i j are in_i in_j =
    let x : ℕ = get_or places i 0 in
    let y : ℕ = get_or places j 0 in
    let swaps = swapped_from_swap places (swap places i j) i j 0 (omega (arith, are.filled)) (omega (arith, are.filled)) refl in
    let within_x : x < length slots = are.place_within i in_i in
    let within_y : y < length (set slots x j) = omega (arith, are.place_within j in_j, length-set slots x j) in
    record {
      first = swaps.0;
      second = swaps.1;
      others = swaps.2;
      slot_of_second = get_or-set_same (set slots x j) y i 0 within_y;
      slot_of_first = elim (cases_eq x y) as (λ _. get_or (set (set slots x j) y i) x 0 ≡ j) [
        | inl e ↦
            let same : i ≡ j = sym (are.slot_of i in_i) ∙ ap (λ (z : ℕ). get_or slots z 0) e ∙ are.slot_of j in_j in
            ap (λ (z : ℕ). get_or (set (set slots x j) y i) z 0) e ∙ get_or-set_same (set slots x j) y i 0 within_y ∙ same
        | inr ne ↦ get_or-set_other (set slots x j) y x i 0 ne ∙ get_or-set_same slots x j 0 within_x
      ];
      other_slots = λ z not_x not_y. get_or-set_other (set slots x j) y z i 0 not_y ∙ get_or-set_other slots x z j 0 not_x;
    }

-- a place other than those of two slots stands in another slot
other_slot : (numbers : List PairNo) (places slots : List ℕ) (begin end i x : ℕ) → AreSlotted numbers places slots begin end → x < length slots
    → (x ≡ get_or places i 0 → ⊥) → get_or slots x 0 ≡ i → ⊥
other_slot numbers places slots begin end i x are within ne e =
    ne (sym (are.place_in x within) ∙ ap (λ (z : ℕ). get_or places z 0) e)

-- and a slot other than those of two places has another place
other_place : (numbers : List PairNo) (places slots : List ℕ) (begin end i k : ℕ) → AreSlotted numbers places slots begin end → i < length slots
    → k < length slots → (k ≡ i → ⊥) → get_or places k 0 ≡ get_or places i 0 → ⊥
other_place numbers places slots begin end i k are in_i in_k ne e =
    ne (sym (are.slot_of k in_k) ∙ ap (λ (z : ℕ). get_or slots z 0) e ∙ are.slot_of i in_i)

-- after an exchange each place stands in one slot, whichever slots are chosen
pub ArePlaced-exchange : (numbers : List PairNo) (places slots : List ℕ) (begin end i j first last : ℕ) → AreSlotted numbers places slots begin end
    → i < length slots → j < length slots → first ≤ last → last ≤ length slots
    → AreSlotted (swap numbers i j) (swap places i j) (slots_after places slots i j) first last
ArePlaced-exchange numbers places slots begin end i j first last are in_i in_j rises few =
    let x : ℕ = get_or places i 0 in
    let y : ℕ = get_or places j 0 in
    let is = exchanged numbers places slots begin end i j are in_i in_j in
    let size : length (slots_after places slots i j) ≡ length slots = length-set (set slots x j) y i ∙ length-set slots x j in
    record {
      numbered = length-swap numbers i j ∙ are.numbered ∙ sym size;
      filled = length-swap places i j ∙ are.filled ∙ sym size;
      rises = rises;
      few = rw size few;
      slot_within = λ z h.
          let within : z < length slots = omega (arith, size) in
          rw size (elim (cases_eq z y) as (λ _. get_or (slots_after places slots i j) z 0 < length slots) [
            | inl e ↦ rw e (rw is.slot_of_second in_i)
            | inr not_y ↦ elim (cases_eq z x) as (λ _. get_or (slots_after places slots i j) z 0 < length slots) [
              | inl e ↦ rw e (rw is.slot_of_first in_j)
              | inr not_x ↦ omega (arith, is.other_slots z not_x not_y, are.slot_within z within)
            ]
          ]);
      place_within = λ k h.
          let within : k < length slots = omega (arith, size) in
          rw size (elim (cases_eq k i) as (λ _. get_or (swap places i j) k 0 < length slots) [
            | inl e ↦ rw e (omega (arith, is.first, are.place_within j in_j))
            | inr not_i ↦ elim (cases_eq k j) as (λ _. get_or (swap places i j) k 0 < length slots) [
              | inl e ↦ rw e (omega (arith, is.second, are.place_within i in_i))
              | inr not_j ↦ omega (arith, is.others k not_i not_j, are.place_within k within)
            ]
          ]);
      place_in = λ z h.
          let within : z < length slots = omega (arith, size) in
          elim (cases_eq z y) as (λ _. get_or (swap places i j) (get_or (slots_after places slots i j) z 0) 0 ≡ z) [
            | inl e ↦ ap (λ (w : ℕ). get_or (swap places i j) (get_or (slots_after places slots i j) w 0) 0) e
                ∙ ap (λ (w : ℕ). get_or (swap places i j) w 0) is.slot_of_second ∙ is.first ∙ sym e
            | inr not_y ↦ elim (cases_eq z x) as (λ _. get_or (swap places i j) (get_or (slots_after places slots i j) z 0) 0 ≡ z) [
              | inl e ↦ ap (λ (w : ℕ). get_or (swap places i j) (get_or (slots_after places slots i j) w 0) 0) e
                  ∙ ap (λ (w : ℕ). get_or (swap places i j) w 0) is.slot_of_first ∙ is.second ∙ sym e
              | inr not_x ↦
                  ap (λ (w : ℕ). get_or (swap places i j) w 0) (is.other_slots z not_x not_y)
                  ∙ is.others (get_or slots z 0) (other_slot numbers places slots begin end i z are within not_x)
                  (other_slot numbers places slots begin end j z are within not_y)
                  ∙ are.place_in z within
            ]
          ];
      slot_of = λ k h.
          let within : k < length slots = omega (arith, size) in
          elim (cases_eq k i) as (λ _. get_or (slots_after places slots i j) (get_or (swap places i j) k 0) 0 ≡ k) [
            | inl e ↦ ap (λ (w : ℕ). get_or (slots_after places slots i j) (get_or (swap places i j) w 0) 0) e
                ∙ ap (λ (w : ℕ). get_or (slots_after places slots i j) w 0) is.first ∙ is.slot_of_second ∙ sym e
            | inr not_i ↦ elim (cases_eq k j) as (λ _. get_or (slots_after places slots i j) (get_or (swap places i j) k 0) 0 ≡ k) [
              | inl e ↦ ap (λ (w : ℕ). get_or (slots_after places slots i j) (get_or (swap places i j) w 0) 0) e
                  ∙ ap (λ (w : ℕ). get_or (slots_after places slots i j) w 0) is.second ∙ is.slot_of_first ∙ sym e
              | inr not_j ↦
                  ap (λ (w : ℕ). get_or (slots_after places slots i j) w 0) (is.others k not_i not_j)
                  ∙ is.other_slots (get_or places k 0) (other_place numbers places slots begin end i k are in_i within not_i)
                  (other_place numbers places slots begin end j k are in_j within not_j)
                  ∙ are.slot_of k within
            ]
          ];
    }

abbrev none : PairNo
none = record { 0 = 0 }

-- the number of a place goes along with its slot
goes_along : (old new : ℕ → PairNo) (olds news : List ℕ) (z k m n : ℕ) → z ≡ k → get_or news k 0 ≡ m → new m ≡ old n → get_or olds k 0 ≡ n
    → new (get_or news z 0) ≡ old (get_or olds z 0)
goes_along old new olds news z k m n e now moved before =
    ap (λ (w : ℕ). new (get_or news w 0)) e ∙ ap new now ∙ moved ∙ ap old (sym before) ∙ ap (λ (w : ℕ). old (get_or olds w 0)) (sym e)

-- each place keeps its number
pub numbers-exchange : (numbers : List PairNo) (places slots : List ℕ) (begin end i j : ℕ) → AreSlotted numbers places slots begin end → i < length slots
    → j < length slots → map (number_at (swap numbers i j)) (slots_after places slots i j) ≡ map (number_at numbers) slots
numbers-exchange numbers places slots begin end i j are in_i in_j =
    let x : ℕ = get_or places i 0 in
    let y : ℕ = get_or places j 0 in
    let is = exchanged numbers places slots begin end i j are in_i in_j in
    let swaps = swapped_from_swap numbers (swap numbers i j) i j none (omega (arith, are.numbered)) (omega (arith, are.numbered)) refl in
    let size : length (slots_after places slots i j) ≡ length slots = length-set (set slots x j) y i ∙ length-set slots x j in
    let first_size : length (map (number_at (swap numbers i j)) (slots_after places slots i j)) ≡ length slots =
    length-map (slots_after places slots i j) (number_at (swap numbers i j)) ∙ size in
    ext_get_or none (map (number_at (swap numbers i j)) (slots_after places slots i j)) (map (number_at numbers) slots) (first_size
    ∙ sym (length-map slots (number_at numbers)))
    (λ z h.
    let within : z < length slots = omega (arith, first_size) in
    get_or-map (number_at (swap numbers i j)) (slots_after places slots i j) z 0 none (omega (arith, size))
    ∙ (elim (cases_eq z y) as (λ _. number_at (swap numbers i j) (get_or (slots_after places slots i j) z 0) ≡ number_at numbers (get_or slots z 0)) [
      | inl e ↦ goes_along (number_at numbers) (number_at (swap numbers i j)) slots (slots_after places slots i j) z y _ _ e is.slot_of_second swaps.0
          (are.slot_of j in_j)
      | inr not_y ↦ elim (cases_eq z x) as (λ _. number_at (swap numbers i j) (get_or (slots_after places slots i j) z 0)
          ≡ number_at numbers (get_or slots z 0)) [
            | inl e ↦ goes_along (number_at numbers) (number_at (swap numbers i j)) slots (slots_after places slots i j) z x _ _ e is.slot_of_first swaps.1
                (are.slot_of i in_i)
            | inr not_x ↦
                ap (number_at (swap numbers i j)) (is.other_slots z not_x not_y)
                ∙ swaps.2 (get_or slots z 0) (other_slot numbers places slots begin end i z are within not_x)
                (other_slot numbers places slots begin end j z are within not_y)
          ]
    ])
    ∙ sym (get_or-map (number_at numbers) slots z 0 none within))

-- ---- parts of a list

length_range : {X : Type 0} (xs : List X) (a b : ℕ) → a ≤ b → b ≤ length xs → length (slice_range xs a b) ≡ b - a
length_range xs a b rises few = length-take-le (b - a) (drop a xs) (omega (arith, length-drop a xs))

read_range : {X : Type 0} (xs : List X) (a b k : ℕ) (d : X) → k < b - a → get_or (slice_range xs a b) k d ≡ get_or xs (a + k) d
read_range xs a b k d less = get_or-take (b - a) (drop a xs) k d less ∙ get_or-drop a xs k d

range_dropped : {X : Type 0} (xs : List X) (a b : ℕ) → a ≤ b → slice_range xs a b ≡ drop a (take b xs)
range_dropped {X} xs a b rises =
    let whole : a + (b - a) ≡ b = omega arith in
    sym (drop-take a (b - a) xs) ∙ ap (λ (n : ℕ). drop a (take n xs)) whole

-- ---- the chosen places, and those that are gone

-- the chosen places are those with the slots from `begin` up to `end`
pub chosen_where : (numbers : List PairNo) (places slots : List ℕ) (begin end : ℕ) → AreSlotted numbers places slots begin end → (y : ℕ)
    → Contains (slice_range places begin end) y ↔ ((y < length slots) × (begin ≤ get_or slots y 0) × (get_or slots y 0 < end))
chosen_where numbers places slots begin end are y =
    let size : length (slice_range places begin end) ≡ end - begin = length_range places begin end are.rises (omega (arith, are.few, are.filled)) in (
      λ is.
          let k : ℕ = is.0 in
          let less : k < end - begin = omega (arith, is.1, size) in
          let within : begin + k < length slots = omega (arith, are.few) in
          let here : get_or places (begin + k) 0 ≡ y = get_or_default places (begin + k) 0 y (omega (arith, are.filled))
          ∙ sym (read_range places begin end k y less) ∙ is.2 in
          let slot : get_or slots y 0 ≡ begin + k = ap (λ (z : ℕ). get_or slots z 0) (sym here) ∙ are.slot_of (begin + k) within in
          let known : get_or places (begin + k) 0 < length slots = are.place_within (begin + k) within in
          (omega (arith, here, known), omega (arith, slot), omega (arith, slot, less)),
      λ is.
          let k : ℕ = get_or slots y 0 - begin in
          let less : k < end - begin = omega (arith, is.1, is.2) in
          let slot : begin + k ≡ get_or slots y 0 = omega (arith, is.1) in (
            k,
            omega (arith, size, less),
            read_range places begin end k y less
                ∙ ap (λ (z : ℕ). get_or places z y) slot
                ∙ get_or_default places (get_or slots y 0) y 0 (omega (arith, is.2, are.few, are.filled))
                ∙ are.place_in y is.0,
          ),
    )

-- a place with a slot before `begin` is gone
pub gone_where : (numbers : List PairNo) (places slots : List ℕ) (begin end : ℕ) → AreSlotted numbers places slots begin end → (y : ℕ) → y < length slots
    → get_or slots y 0 < begin → Contains (take begin places) y
gone_where numbers places slots begin end are y within before =
    let size : length (take begin places) ≡ begin = length-take-le begin places (omega (arith, are.rises, are.few, are.filled)) in (
      get_or slots y 0,
      omega (arith, size, before),
      get_or-take begin places (get_or slots y 0) y before
          ∙ get_or_default places (get_or slots y 0) y 0 (omega (arith, before, are.rises, are.few, are.filled))
          ∙ are.place_in y within,
    )

-- what stands before two slots stays where their places change
before_stays : (places : List ℕ) (i j n : ℕ) → i < length places → j < length places → n ≤ i → n ≤ j → take n (swap places i j) ≡ take n places
before_stays places i j n in_i in_j first second =
    ap (λ (z : List ℕ). take n z) (sym (swap_is places i j 0 in_i in_j))
    ∙ take-set-le n (set places i (get_or places j 0)) j (get_or places i 0) second
    ∙ take-set-le n places i (get_or places j 0) first

-- the pair of a later slot comes behind the first n
one_more : (numbers : List PairNo) (places slots : List ℕ) (begin end n x : ℕ) → AreSlotted numbers places slots begin end → x < length slots
    → n ≤ get_or slots x 0 → take (n + 1) (swap places (get_or slots x 0) n) ≡ take n places ++ x ∷ []
one_more numbers places slots begin end n x are within later =
    let i : ℕ = get_or slots x 0 in
    let in_i : i < length places = omega (arith, are.slot_within x within, are.filled) in
    let in_n : n < length places = omega arith in
    let swaps = swapped_from_swap places (swap places i n) i n 0 in_i in_n refl in
    take_more (swap places i n) n 0 (omega (arith, length-swap places i n))
    ∙ ap (λ (z : List ℕ). z ++ get_or (swap places i n) n 0 ∷ []) (before_stays places i n n in_i in_n later (omega arith))
    ∙ ap (λ (z : ℕ). take n places ++ z ∷ []) (swaps.1 ∙ are.place_in x within)

-- one more is chosen, behind the others: the pair that stood in a later slot
pub chosen_more : (numbers : List PairNo) (places slots : List ℕ) (begin end x : ℕ) → AreSlotted numbers places slots begin end → x < length slots
    → end ≤ get_or slots x 0 → slice_range (swap places (get_or slots x 0) end) begin (end + 1) ≡ slice_range places begin end ++ x ∷ []
chosen_more numbers places slots begin end x are within later =
    let size : length (take end places) ≡ end = length-take-le end places (omega (arith, are.few, are.filled)) in
    range_dropped (swap places (get_or slots x 0) end) begin (end + 1) (omega (arith, are.rises))
    ∙ ap (λ (z : List ℕ). drop begin z) (one_more numbers places slots begin end end x are within later)
    ∙ drop-append-le begin (take end places) (x ∷ []) (omega (arith, size, are.rises))
    ∙ ap (λ (z : List ℕ). z ++ x ∷ []) (sym (range_dropped places begin end are.rises))

-- one fewer is chosen: x changes places with the first of them, and is gone
pub chosen_fewer : (numbers : List PairNo) (places slots : List ℕ) (begin end x : ℕ) → AreSlotted numbers places slots begin end
    → Contains (slice_range places begin end) x → (y : ℕ) → Contains (slice_range (swap places (get_or slots x 0) begin) (begin + 1) end) y
    ↔ (Contains (slice_range places begin end) y × (y ≡ x → ⊥))
chosen_fewer numbers places slots begin end x are has y =
    let i : ℕ = get_or slots x 0 in
    let place = (chosen_where numbers places slots begin end are x).0 has in
    let in_i : i < length slots = are.slot_within x place.0 in
    let in_begin : begin < length slots = omega (arith, place.1, in_i) in
    let first : ℕ = get_or places begin 0 in
    let here : get_or places i 0 ≡ x = are.place_in x place.0 in
    let is = exchanged numbers places slots begin end i begin are in_i in_begin in
    let later = ArePlaced-exchange numbers places slots begin end i begin (begin + 1) end are in_i in_begin (omega (arith, place.1, place.2)) are.few in
    let size : length (slots_after places slots i begin) ≡ length slots =
    length-set (set slots (get_or places i 0) begin) first i ∙ length-set slots (get_or places i 0) begin in
    let gone : get_or (slots_after places slots i begin) x 0 ≡ begin = ap (λ (z : ℕ). get_or (slots_after places slots i begin) z 0) (sym here)
    ∙ is.slot_of_first in
    let stays : (y ≡ x → ⊥) → (y ≡ first → ⊥) → get_or (slots_after places slots i begin) y 0 ≡ get_or slots y 0 =
    λ not_x not_first. is.other_slots y (λ e. not_x (e ∙ here)) not_first in (
      λ h.
          let now = (chosen_where (swap numbers i begin) (swap places i begin) (slots_after places slots i begin) (begin + 1) end later y).0 h in
          let within : y < length slots = omega (arith, now.0, size) in
          let not_x : y ≡ x → ⊥ = λ e. let at : get_or (slots_after places slots i begin) y 0 ≡ begin =
          ap (λ (z : ℕ). get_or (slots_after places slots i begin) z 0) e ∙ gone in omega (arith, now.1, at) in
          let was : (begin ≤ get_or slots y 0) × (get_or slots y 0 < end) =
          elim (cases_eq y first) as (λ _. (begin ≤ get_or slots y 0) × (get_or slots y 0 < end)) [
            | inl e ↦
                let slot : get_or slots y 0 ≡ begin = ap (λ (z : ℕ). get_or slots z 0) e ∙ are.slot_of begin in_begin in
                (omega (arith, slot), omega (arith, slot, place.1, place.2))
            | inr not_first ↦ let slot = stays not_x not_first in (omega (arith, slot, now.1), omega (arith, slot, now.2))
          ] in
          ((chosen_where numbers places slots begin end are y).1 (within, was.0, was.1), not_x),
      λ h.
          let was = (chosen_where numbers places slots begin end are y).0 h.0 in
          let slot_of : ℕ = get_or (slots_after places slots i begin) y 0 in
          let now : (begin + 1 ≤ slot_of) × (slot_of < end) = elim (cases_eq y first) as (λ _. (begin + 1 ≤ slot_of) × (slot_of < end)) [
            | inl e ↦
                let slot : slot_of ≡ i = ap (λ (z : ℕ). get_or (slots_after places slots i begin) z 0) e ∙ is.slot_of_second in
                let apart : i ≡ begin → ⊥ = λ q. h.1 (e ∙ ap (λ (z : ℕ). get_or places z 0) (sym q) ∙ here) in
                (omega (arith, slot, place.1, apart), omega (arith, slot, place.2))
            | inr not_first ↦
                let slot = stays h.1 not_first in
                let apart : get_or slots y 0 ≡ begin → ⊥ = λ q. not_first (sym (are.place_in y was.0) ∙ ap (λ (z : ℕ). get_or places z 0) q) in
                (omega (arith, slot, was.1, apart), omega (arith, slot, was.2))
          ] in
          (chosen_where (swap numbers i begin) (swap places i begin) (slots_after places slots i begin) (begin + 1) end later y).1
          (omega (arith, was.0, size), now.0, now.1),
    )

-- the chosen places differ
pub apart_chosen : (numbers : List PairNo) (places slots : List ℕ) (begin end : ℕ) → AreSlotted numbers places slots begin end
    → AreApart (slice_range places begin end)
apart_chosen numbers places slots begin end are i j d less within e =
    let size : length (slice_range places begin end) ≡ end - begin = length_range places begin end are.rises (omega (arith, are.few, are.filled)) in
    let first : i < end - begin = omega (arith, size) in
    let second : j < end - begin = omega (arith, size) in
    let read : (k : ℕ) → k < end - begin → get_or (slice_range places begin end) k d ≡ get_or places (begin + k) 0 =
    λ k h. read_range places begin end k d h ∙ get_or_default places (begin + k) d 0 (omega (arith, are.few, are.filled)) in
    let same : get_or places (begin + i) 0 ≡ get_or places (begin + j) 0 = sym (read i first) ∙ e ∙ read j second in
    let equal : begin + i ≡ begin + j = sym (are.slot_of (begin + i) (omega (arith, are.few))) ∙ ap (λ (z : ℕ). get_or slots z 0) same
    ∙ are.slot_of (begin + j) (omega (arith, are.few)) in
    omega arith

-- the numbers in the slots of the chosen places are theirs
pub numbers_chosen : (numbers : List PairNo) (places slots : List ℕ) (begin end : ℕ) → AreSlotted numbers places slots begin end
    → slice_range numbers begin end ≡ map (number_at (map (number_at numbers) slots)) (slice_range places begin end)
numbers_chosen numbers places slots begin end are =
    let by_place : List PairNo = map (number_at numbers) slots in
    let size : length (slice_range places begin end) ≡ end - begin = length_range places begin end are.rises (omega (arith, are.few, are.filled)) in
    let first_size : length (slice_range numbers begin end) ≡ end - begin = length_range numbers begin end are.rises (omega (arith, are.few, are.numbered)) in
    ext_get_or none (slice_range numbers begin end) (map (number_at by_place) (slice_range places begin end)) (first_size ∙ sym size
    ∙ sym (length-map (slice_range places begin end) (number_at by_place)))
    (λ k h.
    let less : k < end - begin = omega (arith, first_size) in
    let within : begin + k < length slots = omega (arith, are.few) in
    read_range numbers begin end k none less
    ∙ ap (number_at numbers) (sym (are.slot_of (begin + k) within))
    ∙ sym (get_or-map (number_at numbers) slots (get_or places (begin + k) 0) 0 none (are.place_within (begin + k) within))
    ∙ ap (number_at by_place) (sym (read_range places begin end k 0 less))
    ∙ sym (get_or-map (number_at by_place) (slice_range places begin end) k 0 none (omega (arith, size))))

-- at first each place stands in the slot of its own number, and none is chosen
pub ArePlaced-first : (numbers : List PairNo) (places slots : List ℕ) → places ≡ range_with_len 0 (length numbers) → slots ≡ range_with_len 0 (length numbers)
    → AreSlotted numbers places slots 0 0
ArePlaced-first numbers places slots is same =
    let n : ℕ = length numbers in
    let size : length slots ≡ n = ap length same ∙ length-range_with_len 0 n in
    let filled : length places ≡ n = ap length is ∙ length-range_with_len 0 n in
    let slot : (x : ℕ) → x < n → get_or slots x 0 ≡ x = λ x h. ap (λ (z : List ℕ). get_or z x 0) same ∙ get_or-range_with_len 0 n x 0 h ∙ omega arith in
    let place : (x : ℕ) → x < n → get_or places x 0 ≡ x = λ x h. ap (λ (z : List ℕ). get_or z x 0) is ∙ get_or-range_with_len 0 n x 0 h ∙ omega arith in
    record {
      numbered = sym size;
      filled = filled ∙ sym size;
      rises = omega arith;
      few = omega arith;
      slot_within = λ x h. omega (arith, slot x (omega (arith, size)));
      place_within = λ k h. omega (arith, size, place k (omega (arith, size)));
      place_in = λ x h. let here : x < n = omega (arith, size) in ap (λ (z : ℕ). get_or places z 0) (slot x here) ∙ place x here;
      slot_of = λ k h. let here : k < n = omega (arith, size) in ap (λ (z : ℕ). get_or slots z 0) (place k here) ∙ slot k here;
    }

pub numbers-first : (numbers : List PairNo) (slots : List ℕ) → slots ≡ range_with_len 0 (length numbers) → map (number_at numbers) slots ≡ numbers
numbers-first numbers slots is =
    ap (λ (z : List ℕ). map (number_at numbers) z) is ∙ sym (fill_by_all (number_at numbers) numbers (length numbers) none refl (λ k h. refl))

-- ---- the changes of the set

-- the places of the set as its value shows them
pub shown_where : (numbers : List PairNo) (places slots : List ℕ) (begin end : ℕ) (v : Chosen) → AreSlotted numbers places slots begin end
    → chosen numbers places slots begin end ≡ v → (y : ℕ) → Contains v.places y ↔ ((y < length slots) × (begin ≤ get_or slots y 0) × (get_or slots y 0 < end))
shown_where numbers places slots begin end v are shown y =
    subst (λ (w : Chosen). Contains w.places y ↔ ((y < length slots) × (begin ≤ get_or slots y 0) × (get_or slots y 0 < end))) shown
    (chosen_where numbers places slots begin end are y)

-- each pair has a slot
pub has_slot : (numbers : List PairNo) (places slots : List ℕ) (begin end x : ℕ) (v : Chosen) → chosen numbers places slots begin end ≡ v → x < length v.numbers
    → x < length slots
has_slot numbers places slots begin end x v shown known = omega (arith, ap (λ (w : Chosen). length w.numbers) shown, length-map slots (number_at numbers))

-- a pair that isn't chosen and isn't gone stands in a later slot
pub later_slot : (numbers : List PairNo) (places slots : List ℕ) (begin end x i : ℕ) (v : Chosen) → AreSlotted numbers places slots begin end
    → chosen numbers places slots begin end ≡ v → i ≡ get_or slots x i → x < length v.numbers → (Contains v.places x → ⊥) → (Contains v.gone x → ⊥)
    → (x < length slots) × (i ≡ get_or slots x 0) × (end ≤ i) × (i < length slots)
later_slot numbers places slots begin end x i v are shown read known absent fresh =
    let within = has_slot numbers places slots begin end x v shown known in
    let is : i ≡ get_or slots x 0 = get_or_read slots x i within read 0 in
    let reached : begin ≤ i = elim (cases_lt i begin) as (λ _. begin ≤ i) [
      | inl less ↦ absurd (fresh (subst (λ (w : Chosen). Contains w.gone x) shown
          (gone_where numbers places slots begin end are x within (omega (arith, is, less)))))
      | inr le ↦ le
    ] in (
      within,
      is,
      elim (cases_lt i end) as (λ _. end ≤ i) [
        | inl less ↦ absurd (absent ((shown_where numbers places slots begin end v are shown x).1
            (within, omega (arith, is, reached), omega (arith, is, less))))
        | inr le ↦ le
      ],
      omega (arith, is, are.slot_within x within),
    )

pub inserted : (numbers : List PairNo) (places slots : List ℕ) (begin end x i : ℕ) (v : Chosen) (later_numbers : List PairNo)
    (later_places later_slots : List ℕ) → AreSlotted numbers places slots begin end → chosen numbers places slots begin end ≡ v → i ≡ get_or slots x i
    → x < length v.numbers → (Contains v.places x → ⊥) → (Contains v.gone x → ⊥)
    → later_numbers ≡ swap numbers i end → later_places ≡ swap places i end → later_slots ≡ slots_after places slots i end
    → AreSlotted later_numbers later_places later_slots begin (end + 1) × (map (number_at later_numbers) later_slots ≡ v.numbers)
    × (take begin later_places ≡ v.gone) × (slice_range later_places begin (end + 1) ≡ v.places ++ x ∷ [])
inserted numbers places slots begin end x i v later_numbers later_places later_slots are shown read known absent fresh numbers_are places_are slots_are =
    let late = later_slot numbers places slots begin end x i v are shown read known absent fresh in
    let in_end : end < length slots = omega (arith, late.2, late.3) in
    let stay : take begin (swap places i end) ≡ take begin places =
    before_stays places i end begin (omega (arith, late.3, are.filled)) (omega (arith, in_end, are.filled)) (omega (arith, are.rises, late.2)) are.rises in
    let added : slice_range (swap places i end) begin (end + 1) ≡ slice_range places begin end ++ x ∷ [] =
    ap (λ (z : ℕ). slice_range (swap places z end) begin (end + 1)) late.1
    ∙ chosen_more numbers places slots begin end x are late.0 (omega (arith, late.1, late.2)) in
    rw (numbers_are, places_are, slots_are) (
      ArePlaced-exchange numbers places slots begin end i end begin (end + 1) are late.3 in_end (omega (arith, are.rises)) (omega (arith, in_end)),
      numbers-exchange numbers places slots begin end i end are late.3 in_end ∙ ap (λ (w : Chosen). w.numbers) shown,
      stay ∙ ap (λ (w : Chosen). w.gone) shown,
      added ∙ ap (λ (w : Chosen). w.places ++ x ∷ []) shown,
    )

-- where a pair is chosen, it stands in a slot, and there is a first one
pub chosen_slot : (numbers : List PairNo) (places slots : List ℕ) (begin end x i : ℕ) (v : Chosen) → AreSlotted numbers places slots begin end
    → chosen numbers places slots begin end ≡ v → i ≡ get_or slots x i → Contains v.places x
    → (x < length slots) × (i ≡ get_or slots x 0) × (begin ≤ i) × (i < end)
chosen_slot numbers places slots begin end x i v are shown read has =
    let place = (shown_where numbers places slots begin end v are shown x).0 has in
    let is : i ≡ get_or slots x 0 = get_or_read slots x i place.0 read 0 in
    (place.0, is, omega (arith, is, place.1), omega (arith, is, place.2))

pub removed : (numbers : List PairNo) (places slots : List ℕ) (begin end x i : ℕ) (v : Chosen) (later_numbers : List PairNo) (later_places later_slots : List ℕ)
    → AreSlotted numbers places slots begin end → chosen numbers places slots begin end ≡ v → i ≡ get_or slots x i → Contains v.places x
    → later_numbers ≡ swap numbers i begin → later_places ≡ swap places i begin → later_slots ≡ slots_after places slots i begin
    → AreSlotted later_numbers later_places later_slots (begin + 1) end × (map (number_at later_numbers) later_slots ≡ v.numbers)
    × (take (begin + 1) later_places ≡ v.gone ++ x ∷ []) × ((y : ℕ) → Contains (slice_range later_places (begin + 1) end) y
    ↔ (Contains v.places y × (y ≡ x → ⊥)))
removed numbers places slots begin end x i v later_numbers later_places later_slots are shown read has numbers_are places_are slots_are =
    let slot = chosen_slot numbers places slots begin end x i v are shown read has in
    let in_i : i < length slots = omega (arith, slot.3, are.few) in
    let in_begin : begin < length slots = omega (arith, slot.2, in_i) in
    let had : Contains (slice_range places begin end) x = subst (λ (w : Chosen). Contains w.places x) (sym shown) has in
    let gone : take (begin + 1) (swap places i begin) ≡ take begin places ++ x ∷ [] =
    ap (λ (z : ℕ). take (begin + 1) (swap places z begin)) slot.1 ∙ one_more numbers places slots begin end begin x are slot.0 (omega (arith, slot.1, slot.2))
    in
    let fewer : (y : ℕ) → Contains (slice_range (swap places i begin) (begin + 1) end) y ↔ (Contains v.places y × (y ≡ x → ⊥)) = λ y.
    subst (λ (w : Chosen). Contains (slice_range (swap places i begin) (begin + 1) end) y ↔ (Contains w.places y × (y ≡ x → ⊥))) shown
    (subst (λ (z : ℕ). Contains (slice_range (swap places z begin) (begin + 1) end) y ↔ (Contains (slice_range places begin end) y × (y ≡ x → ⊥))) (sym slot.1)
    (chosen_fewer numbers places slots begin end x are had y)) in
    rw (numbers_are, places_are, slots_are) (
      ArePlaced-exchange numbers places slots begin end i begin (begin + 1) end are in_i in_begin (omega (arith, slot.2, slot.3)) are.few,
      numbers-exchange numbers places slots begin end i begin are in_i in_begin ∙ ap (λ (w : Chosen). w.numbers) shown,
      gone ∙ ap (λ (w : Chosen). w.gone ++ x ∷ []) shown,
      fewer,
    )

pub first_set : (numbers given : List PairNo) (places slots : List ℕ) → numbers ≡ given → places ≡ range_with_len 0 (length given)
    → slots ≡ range_with_len 0 (length given) → AreSlotted numbers places slots 0 0 × (map (number_at numbers) slots ≡ given)
first_set numbers given places slots same places_are slots_are =
    rw same (ArePlaced-first given places slots places_are slots_are, numbers-first given slots slots_are)
