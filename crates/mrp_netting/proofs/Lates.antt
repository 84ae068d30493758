-- Netting one pair: the loop over its orders that are late.
use Rattle.std.proofs.Common.{◌≡◌, ℕ, ◌+◌, ◌-◌, ◌<◌, ◌≤◌, ◌&&◌, Bool, true, false, cond, min, nat_lt, ⊎_elim, List, [], ◌∷◌, ◌++◌, length, slice_index, filter}
use Rattle.std.proofs.Common.{zero, suc, sym, refl, ◌∙◌, ap, arith, ltb-true, lt-ltb, le-ltb, add-one, add-zero, get_or, All}
use Rattle.std.specs.List.{range_with_len}
use Rattle.std.proofs.lemmas.Bool.{cases_lt, cond-true, cond-false}
use Rattle.std.proofs.lemmas.List.{append-nil}
use Rattle.std.proofs.lemmas.List.Elements.{filter-append, All-filter, filter_passes}
use Rattle.std.proofs.lemmas.List.FromFn.{get_or-range_with_len, length-range_with_len}
use Rattle.std.proofs.lemmas.List.Sums.{count_by-le-length, length-filter}
use Rattle.mrp_netting.specs.PlanRows.{is_late, late_periods}
use Rattle.mrp_netting.specs.Plan.{AreLate}

range_from-suc : (a n j : ℕ) → a + n ≡ j → range_with_len a (suc n) ≡ range_with_len a n ++ (j ∷ [])
range_from-suc a zero j e = let here : a ≡ j = omega arith in ap (λ (x : ℕ). x ∷ []) here
range_from-suc a (suc n) j e = ap (λ (xs : List ℕ). a ∷ xs) (range_from-suc (a + 1) n j (omega arith))

pub filter-range-more : (p : ℕ → Bool) (n : ℕ) → filter p (range_with_len 0 (n + 1)) ≡ filter p (range_with_len 0 n) ++ cond (p n) (n ∷ []) []
filter-range-more p n =
    ap (λ (m : ℕ). filter p (range_with_len 0 m)) (add-one n) ∙ ap (filter p) (range_from-suc 0 n n (omega arith))
    ∙ filter-append p (range_with_len 0 n) (n ∷ [])

and_true : (a b : Bool) → a ≡ true → b ≡ true → (a && b) ≡ true
and_true a b p q = cc

and_first : (a b : Bool) → (a && b) ≡ true → a ≡ true
and_first true b h = refl
and_first false b h = h

and_false : (a b : Bool) → a ≡ false → (a && b) ≡ false
and_false a b p = cc

and_second_false : (a b : Bool) → b ≡ false → (a && b) ≡ false
and_second_false true b p = p
and_second_false false b p = refl

-- one period more: late, without an order, past the lead time
pub late_more : (lead : ℕ) (order : List ℕ) (t : ℕ) → t < lead → 0 < slice_index order t
    → late_periods lead order (t + 1) ≡ late_periods lead order t ++ (t ∷ [])
late_more lead order t soon some =
    let is : is_late lead order t ≡ true = and_true _ _ (lt-ltb t lead soon) (lt-ltb 0 (slice_index order t) some) in
    filter-range-more (is_late lead order) t
    ∙ ap (λ (xs : List ℕ). late_periods lead order t ++ xs) (cond-true (is_late lead order t) (t ∷ []) [] is)

late_not : (lead : ℕ) (order : List ℕ) (t : ℕ) → is_late lead order t ≡ false → late_periods lead order (t + 1) ≡ late_periods lead order t
late_not lead order t not =
    filter-range-more (is_late lead order) t
    ∙ ap (λ (xs : List ℕ). late_periods lead order t ++ xs) (cond-false (is_late lead order t) (t ∷ []) [] not)
    ∙ append-nil (late_periods lead order t)

pub late_same : (lead : ℕ) (order : List ℕ) (t : ℕ) → slice_index order t ≡ 0 → late_periods lead order (t + 1) ≡ late_periods lead order t
late_same lead order t none =
    late_not lead order t (and_second_false (nat_lt t lead) (nat_lt 0 (slice_index order t)) (le-ltb 0 (slice_index order t) (omega arith)))

late_past : (lead : ℕ) (order : List ℕ) (n k : ℕ) → lead ≤ n → late_periods lead order (n + k) ≡ late_periods lead order n
late_past lead order n zero past = ap (late_periods lead order) (add-zero n)
late_past lead order n (suc k) past =
    let next : n + suc k ≡ (n + k) + 1 = omega arith in
    ap (late_periods lead order) next
    ∙ late_not lead order (n + k) (and_false (nat_lt (n + k) lead) _ (le-ltb (n + k) lead (omega arith)))
    ∙ late_past lead order n k past

-- no period from the lead time on is late
pub late_end : (lead : ℕ) (order : List ℕ) (t n : ℕ) → t ≡ min n lead → late_periods lead order t ≡ late_periods lead order n
late_end lead order t n end =
    ⊎_elim
    (λ (short : lead < n).
    let here : t ≡ lead = omega arith in
    let there : lead + (n - lead) ≡ n = omega arith in
    ap (late_periods lead order) here ∙ sym (late_past lead order lead (n - lead) (omega arith)) ∙ ap (late_periods lead order) there)
    (λ (long : n ≤ lead). let here : t ≡ n = omega arith in ap (late_periods lead order) here)
    (cases_lt lead n)

within_range : (n : ℕ) → All (λ t. t < n) (range_with_len 0 n)
within_range n k d h =
    let e = get_or-range_with_len 0 n k d (omega (arith, length-range_with_len 0 n)) in
    omega (arith, e, length-range_with_len 0 n)

pub are_late : (lead : ℕ) (order : List ℕ) → AreLate lead order (late_periods lead order (length order))
are_late lead order k d h =
    let x = get_or (late_periods lead order (length order)) k d in (
      All-filter (is_late lead order) (λ t. t < length order) (range_with_len 0 (length order)) (within_range (length order)) k d h,
      ltb-true x lead (and_first _ _ (filter_passes (is_late lead order) (range_with_len 0 (length order)) k d h)),
    )

-- there is at most one a period
pub late_few : (lead : ℕ) (order : List ℕ) → length (late_periods lead order (length order)) ≤ length order
late_few lead order =
    omega (
      arith,
      length-filter (is_late lead order) (range_with_len 0 (length order)),
      count_by-le-length (is_late lead order)
          (range_with_len 0 (length order)),
      length-range_with_len 0 (length order),
    )
