-- The protocol: what lanes carry, as deliveries, those of a row of amounts, and those of shipments.
use Rattle.std.proofs.Common.{◌≡◌, ℕ, zero, suc, ◌+◌, ◌<◌, ◌≤◌, ◌==◌, not, Bool, true, cond, leb, List, [], ◌∷◌, ◌⊎◌, inl, inr, length, get_or, map, filter}
use Rattle.std.proofs.Common.{sum_by, refl, ap, subst, ◌∙◌, arith, All}
use Rattle.std.specs.List.{AllPairs, range_with_len}
use Rattle.std.specs.List.Sorted.{IsNonDecreasingBy}
use Rattle.std.proofs.lemmas.Bool.{cases_Bool, and_parts, eqb-true, leb-true, both_ways}
use Rattle.std.proofs.lemmas.List.Elements.{All-filter, filter_passes}
use Rattle.std.proofs.lemmas.List.FromFn.{length-map-range_with_len, get_or-map-range_with_len}
use Rattle.std.proofs.lemmas.List.Kept.{AllPairs-filter}
use Rattle.std.proofs.lemmas.List.Sums.{sum_by-cons, length-filter, count_by-le-length}
use Rattle.mrp_master_data.specs.Table.{rises_from}
use Rattle.mrp_record.specs.Entries.{Delivery}
use Rattle.mrp_record.specs.Text.{total}
use Rattle.mrp_protocol.specs.Loads.{delivery_in, has_pieces, by_period}

-- ---- amounts a period

pieces_by_case : (line : Delivery) (lines : List Delivery) → total (cond (has_pieces line) (line ∷ lines) lines) ≡ line.quantity + total lines
pieces_by_case line lines = elim (cases_Bool (line.quantity == 0)) [
  | inl none ↦
      let zero_is : line.quantity ≡ 0 = eqb-true line.quantity 0 none in
      ap (λ (b : Bool). total (cond (not b) (line ∷ lines) lines)) none ∙ omega arith
  | inr some ↦
      ap (λ (b : Bool). total (cond (not b) (line ∷ lines) lines)) some ∙ sum_by-cons (λ (l : Delivery). l.quantity) line lines
]

pub total_of_periods : (amount : ℕ → ℕ) (periods : List ℕ) → total (filter has_pieces (map (delivery_in amount) periods)) ≡ sum_by amount periods
total_of_periods amount [] = refl
total_of_periods amount (t ∷ periods) =
    let lines = filter has_pieces (map (delivery_in amount) periods) in
    omega (arith, pieces_by_case (delivery_in amount t) lines, total_of_periods amount periods, sum_by-cons amount t periods)

pub by_period_total : (amount : ℕ → ℕ) (periods : ℕ) → total (by_period amount periods) ≡ sum_by amount (range_with_len 0 periods)
by_period_total amount periods = total_of_periods amount (range_with_len 0 periods)

some_pieces : (line : Delivery) → has_pieces line ≡ true → 1 ≤ line.quantity
some_pieces line has = elim (cases_Bool (line.quantity == 0)) [
  | inl none ↦ absurd (both_ways (has_pieces line) (ap not none) has)
  | inr some ↦ grind arith
]

pub by_period_some : (amount : ℕ → ℕ) (periods : ℕ) → All (λ line. 1 ≤ line.quantity) (by_period amount periods)
by_period_some amount periods k d h =
    let all = map (delivery_in amount) (range_with_len 0 periods) in
    some_pieces (get_or (by_period amount periods) k d) (filter_passes has_pieces all k d h)

all_inside : (amount : ℕ → ℕ) (periods : ℕ) → All (λ line. line.period < periods) (map (delivery_in amount) (range_with_len 0 periods))
all_inside amount periods k d h =
    let within : k < periods = omega (arith, length-map-range_with_len (delivery_in amount) 0 periods) in
    let is = get_or-map-range_with_len (delivery_in amount) 0 periods k k d within (omega arith) in
    omega (arith, ap (λ (line : Delivery). line.period) is)

pub by_period_inside : (amount : ℕ → ℕ) (periods : ℕ) → All (λ line. line.period < periods) (by_period amount periods)
by_period_inside amount periods =
    All-filter has_pieces (λ line. line.period < periods) (map (delivery_in amount) (range_with_len 0 periods)) (all_inside amount periods)

all_rise : (amount : ℕ → ℕ) (periods : ℕ) → AllPairs (λ a b. a.period < b.period) (map (delivery_in amount) (range_with_len 0 periods))
all_rise amount periods i j d before h =
    let size = length-map-range_with_len (delivery_in amount) 0 periods in
    let first = get_or-map-range_with_len (delivery_in amount) 0 periods i i d (omega (arith, size)) (omega arith) in
    let second = get_or-map-range_with_len (delivery_in amount) 0 periods j j d (omega (arith, size)) (omega arith) in
    omega (arith, ap (λ (line : Delivery). line.period) first, ap (λ (line : Delivery). line.period) second)

pub by_period_rises : (amount : ℕ → ℕ) (periods : ℕ) → AllPairs (λ a b. a.period < b.period) (by_period amount periods)
by_period_rises amount periods =
    AllPairs-filter (λ (a : Delivery) (b : Delivery). a.period < b.period) has_pieces (map (delivery_in amount) (range_with_len 0 periods))
    (all_rise amount periods)

pub by_period_length : (amount : ℕ → ℕ) (periods : ℕ) → length (by_period amount periods) ≤ periods
by_period_length amount periods =
    let all = map (delivery_in amount) (range_with_len 0 periods) in
    omega (arith, length-filter has_pieces all, count_by-le-length has_pieces all, length-map-range_with_len (delivery_in amount) 0 periods)

-- rising periods don't fall
pub in_order : (lines : List Delivery) → AllPairs (λ a b. a.period < b.period) lines → IsNonDecreasingBy (λ line. line.period) lines
in_order lines rises i j d le h =
    elim (eq_or_less i j le) [
      | inl same ↦ let P : ℕ → Type 0 = λ k. (get_or lines i d).period ≤ (get_or lines k d).period in subst P same (omega arith)
      | inr less ↦ let lt : (get_or lines i d).period < (get_or lines j d).period = rises i j d less h in omega arith
    ]
  where
    eq_or_less : (i j : ℕ) → i ≤ j → (i ≡ j) ⊎ (i < j)
    eq_or_less i j le = grind arith

-- ---- numbers that rise one after the other

rises_above : (low : ℕ) (ns : List ℕ) → rises_from low ns ≡ true → (j d : ℕ) → j < length ns → low ≤ get_or ns j d
rises_above low [] rises j d h = absurd (omega arith)
rises_above low (n ∷ ns) rises zero d h = leb-true low n (and_parts (leb low n) (rises_from n ns) rises).0
rises_above low (n ∷ ns) rises (suc j) d h =
    let parts = and_parts (leb low n) (rises_from n ns) rises in
    let first : low ≤ n = leb-true low n parts.0 in
    omega (arith, rises_above n ns parts.1 j d (omega arith))

pub rises_in_order : (low : ℕ) (ns : List ℕ) → rises_from low ns ≡ true → (i j d : ℕ) → i ≤ j → j < length ns → get_or ns i d ≤ get_or ns j d
rises_in_order low [] rises i j d le h = absurd (omega arith)
rises_in_order low (n ∷ ns) rises zero zero d le h = omega arith
rises_in_order low (n ∷ ns) rises zero (suc j) d le h = rises_above n ns (and_parts (leb low n) (rises_from n ns) rises).1 j d (omega arith)
rises_in_order low (n ∷ ns) rises (suc i) zero d le h = absurd (omega arith)
rises_in_order low (n ∷ ns) rises (suc i) (suc j) d le h = rises_in_order n ns (and_parts (leb low n) (rises_from n ns) rises).1 i j d (omega arith)
    (omega arith)
