-- Netting one pair: rows that are written for all periods, and late orders that are compared with those of its plan.
use Rattle.std.proofs.Common.{◌≡◌, ℕ, ◌+◌, ◌-◌, ◌<◌, ◌≤◌, ◌++◌, List, [], ◌∷◌, Some, length, map, slice_index}
use Rattle.std.proofs.Common.{slice_index_or, slice_get, take, cond, zero, suc, refl, sym, ap, ◌∙◌, arith, length-append}
use Rattle.std.specs.List.{range_with_len}
use Rattle.std.proofs.Math.Seq.{get_or-append_seam}
use Rattle.std.proofs.lemmas.List.{append-nil, append_assoc, map-append, length-take-le, take_more}
use Rattle.std.proofs.lemmas.List.FromFn.{get_or-map-range_with_len}
use Rattle.std.proofs.lemmas.Option.{slice_get_read, slice_get_within, get_or_from_slice_get}
use Rattle.mrp_netting.specs.PlanRows.{is_late, late_periods}
use Rattle.mrp_netting.specs.declared.params.Late.{Late}
use Rattle.mrp_netting.specs.Plan.{late_orders_in}
use Rattle.mrp_netting.proofs.Lates.{late_more, filter-range-more}

-- an amount of a row that is written for all periods
pub row_reads : (f : ℕ → ℕ) (row : List ℕ) (n t : ℕ) → row ≡ map f (range_with_len 0 n) → t < n → slice_index row t ≡ f t
row_reads f row n t e within = ap (λ (r : List ℕ). slice_index r t) e ∙ get_or-map-range_with_len f 0 n t t 0 within (omega arith)

-- the late periods of more periods begin with those of fewer
pub late_begins : (lead : ℕ) (order : List ℕ) (m k : ℕ) → (rest : List ℕ) × (late_periods lead order (m + k) ≡ late_periods lead order m ++ rest)
late_begins lead order m zero =
    let same : m + zero ≡ m = omega arith in
    ([], ap (late_periods lead order) same ∙ sym (append-nil (late_periods lead order m)))
late_begins lead order m (suc k) =
    let before = late_begins lead order m k in
    let next : m + suc k ≡ (m + k) + 1 = omega arith in
    let more = cond (is_late lead order (m + k)) ((m + k) ∷ []) [] in (
      before.0 ++ more,
      ap (late_periods lead order) next ∙ filter-range-more (is_late lead order) (m + k) ∙ ap (λ (xs : List ℕ). xs ++ more) before.1
          ∙ append_assoc (late_periods lead order m) before.0 more,
    )

-- with so many late orders found, the next late period has the next late order
pub late_next : (lead : ℕ) (order : List ℕ) (late : List Late) (found t n : ℕ) → late ≡ late_orders_in lead order (late_periods lead order n) → t < n → t < lead
    → 0 < slice_index order t
    → take found late ≡ late_orders_in lead order (late_periods lead order t) → found ≤ length late
    → slice_get late found ≡ Some (record { period = t; quantity = slice_index order t; by = lead - t })
late_next lead order late found t n whole within soon some before there =
    let show : ℕ → Late = λ k. record { period = k; quantity = slice_index order k; by = lead - k } in
    let here : Late = show t in
    let more = late_begins lead order (t + 1) (n - (t + 1)) in
    let same : (t + 1) + (n - (t + 1)) ≡ n = omega arith in
    let periods : late_periods lead order n ≡ (late_periods lead order t ++ (t ∷ [])) ++ more.0 =
    ap (late_periods lead order) (sym same) ∙ more.1 ∙ ap (λ (xs : List ℕ). xs ++ more.0) (late_more lead order t soon some) in
    let front : List Late = map show (late_periods lead order t) in
    let split : late ≡ front ++ here ∷ map show more.0 =
    whole ∙ ap (map show) (periods ∙ append_assoc (late_periods lead order t) (t ∷ []) more.0) ∙ map-append show (late_periods lead order t) (t ∷ more.0) in
    let count : found ≡ length front = sym (length-take-le found late there) ∙ ap (λ (xs : List Late). length xs) before in
    let long : length late ≡ length front + suc (length (map show more.0)) =
    ap (λ (xs : List Late). length xs) split ∙ length-append front (here ∷ map show more.0) in
    let at : slice_index_or late found here ≡ here =
    ap (λ (k : ℕ). slice_index_or late k here) count ∙ ap (λ (xs : List Late). slice_index_or xs (length front) here) split
    ∙ get_or-append_seam front here (map show more.0) here in
    slice_get_read late (length late) found here refl (omega arith) (sym at)

-- it was there, so one more is found
pub late_found : (lead : ℕ) (order : List ℕ) (late : List Late) (found t : ℕ) → t < lead → 0 < slice_index order t
    → take found late ≡ late_orders_in lead order (late_periods lead order t)
    → slice_get late found ≡ Some (record { period = t; quantity = slice_index order t; by = lead - t })
    → take (found + 1) late ≡ late_orders_in lead order (late_periods lead order (t + 1))
late_found lead order late found t soon some before is =
    let show : ℕ → Late = λ k. record { period = k; quantity = slice_index order k; by = lead - k } in
    let here : Late = show t in
    let read = get_or_from_slice_get late found here here is in
    take_more late found here (slice_get_within late found here is)
    ∙ ap (λ (x : Late). take found late ++ x ∷ []) read
    ∙ ap (λ (xs : List Late). xs ++ here ∷ []) before
    ∙ sym (ap (map show) (late_more lead order t soon some) ∙ map-append show (late_periods lead order t) (t ∷ []))
