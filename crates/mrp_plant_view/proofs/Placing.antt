-- The view of one plant: where a pair stands in it, found by a binary search.
use Rattle.std.proofs.Common.{◌≡◌, ℕ, ◌<◌, ◌≤◌, Bool, true, false, cond, eqb, ltb, List, Some, None, Result, Ok, Err, inl, inr, length, get_or, sym, ap, ◌∙◌}
use Rattle.std.proofs.Common.{arith}
use Rattle.std.specs.List.{position, position_or_len}
use Rattle.std.specs.List.Sorted.{IsSearchInRange, IsBinarySearchResult, IsNonDecreasingBy}
use Rattle.std.specs.Ordering.{nat_cmp, ordering_index}
use Rattle.std.specs.Result.{result_ok}
use Rattle.std.proofs.lemmas.Bool.{cases_lt, eq-eqb, ne_eqb, lt-ltb}
use Rattle.std.proofs.lemmas.Bool.Decides.{nat_tests}
use Rattle.std.proofs.lemmas.Cmp.{ranked}
use Rattle.std.proofs.lemmas.List.Sums.{position_or_len_is}
use Rattle.mrp_lot.specs.declared.rule.Rule.TheVariants.{LotForLot}
use Rattle.mrp_netting.specs.PlanningData.{no_policy}
use Rattle.mrp_plant_view.specs.declared.view.PlantPair.{PlantPair}
use Rattle.mrp_plant_view.specs.View.{NumbersRise}
use Rattle.mrp_plant_view.proofs.OwnEdges.{never_falls}

no_plant_pair : PlantPair
no_plant_pair =
    record {
      number = record { 0 = 0 };
      item = record { 0 = 0 };
      params = record { rule = LotForLot; lead = 0; on_hand = 0; safety = 0 };
      policy = no_policy;
    }

index_rises : (a b x : ℕ) → a ≤ b → ordering_index (nat_cmp a x) ≤ ordering_index (nat_cmp b x)
index_rises a b x up = grind (arith, nat_tests)

-- comparisons with a number rise along the pairs, as a binary search asks
comparisons_rise : (pairs : List PlantPair) (x : ℕ) → NumbersRise pairs → IsNonDecreasingBy (λ p. ordering_index (nat_cmp p.number.0 x)) pairs
comparisons_rise pairs x rise = λ i j d le lt.
    let up : (get_or pairs i d).number.0 ≤ (get_or pairs j d).number.0 =
    never_falls (λ (p : PlantPair). p.number.0) pairs (λ k l e before within. let low : (get_or pairs k e).number.0 < (get_or pairs l e).number.0 =
    rise k l e before within in omega arith) i j d le lt in
    index_rises (get_or pairs i d).number.0 (get_or pairs j d).number.0 x up

pub is_below : (a b : ℕ) → true ≡ ltb a b → a < b
is_below a b low = grind (arith, nat_tests)

-- a pair of the number at a place is where the number stands
pub placed_at : (pairs : List PlantPair) (x i : ℕ) (d : PlantPair) → NumbersRise pairs → i < length pairs
    → (get_or pairs i d).number.0 ≡ x → Some i ≡ position (λ p. eqb p.number.0 x) pairs
placed_at pairs x i d rise in_range here =
    let p = λ (q : PlantPair). eqb q.number.0 x in
    let before : (k : ℕ) → k < i → p (get_or pairs k d) ≡ false = λ k lt.
    let low : (get_or pairs k d).number.0 < (get_or pairs i d).number.0 = rise k i d lt in_range in
    ne_eqb (get_or pairs k d).number.0 x (λ e. omega arith) in
    let first : position_or_len p pairs ≡ i = position_or_len_is p pairs i d (omega arith) before (λ _. eq-eqb (get_or pairs i d).number.0 x here) in
    sym (ap (λ (z : ℕ). cond (ltb z (length pairs)) (Some z) None) first ∙ ap (λ (b : Bool). cond b (Some i) None) (lt-ltb i (length pairs) in_range))

pub placed : (pairs : List PlantPair) (x : ℕ) (r : Result ℕ ℕ) → NumbersRise pairs → IsSearchInRange r (length pairs)
    → IsBinarySearchResult (λ p. nat_cmp p.number.0 x) pairs r → result_ok r ≡ position (λ p. eqb p.number.0 x) pairs
placed pairs x (Ok i) rise in_range equal =
    let d : PlantPair = no_plant_pair in
    placed_at pairs x i d rise in_range (ranked (get_or pairs i d).number.0 x _ (sym (equal d)))
placed pairs x (Err i) rise in_range parted =
    let p = λ (q : PlantPair). eqb q.number.0 x in
    let d : PlantPair = no_plant_pair in
    let gap = parted (comparisons_rise pairs x rise) in
    let none : (k : ℕ) → k < length pairs → p (get_or pairs k d) ≡ false = λ k lt.
    let n : ℕ = (get_or pairs k d).number.0 in
    elim (cases_lt k i) as (λ _. eqb n x ≡ false) [
      | inl low ↦ let less : n < x = ranked n x _ (sym (gap.0 k d (omega arith) low)) in ne_eqb n x (λ e. omega arith)
      | inr high ↦ let more : x < n = ranked n x _ (sym (gap.1 k d high lt)) in ne_eqb n x (λ e. omega arith)
    ] in
    let last : position_or_len p pairs ≡ length pairs = position_or_len_is p pairs (length pairs) d (omega arith) none (λ lt. absurd (omega arith)) in
    let past : ltb (length pairs) (length pairs) ≡ false = grind (arith, nat_tests) in
    sym (ap (λ (z : ℕ). cond (ltb z (length pairs)) (Some z) None) last ∙ ap (λ (b : Bool). cond b (Some (length pairs)) None) past)
