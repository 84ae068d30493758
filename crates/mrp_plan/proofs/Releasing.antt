-- The plan of the whole network: what a period releases of its planned orders, each in one period.
use Rattle.std.proofs.Common.{◌≡◌, ℕ, suc, zero, ◌+◌, ◌-◌, ◌<◌, ◌≤◌, ◌==◌, cond, min, max, List, length, sum, sum_by, take, slice_index, sym, ap, ◌∙◌, arith}
use Rattle.std.proofs.Common.{⊎_elim, eq-eqb, ne_eqb}
use Rattle.std.specs.List.{range_with_len}
use Rattle.std.proofs.lemmas.Bool.{cases_eq, cases_lt, cond-true, cond-false}
use Rattle.std.proofs.lemmas.List.{get_or_past, take_all}
use Rattle.mrp_qty.proofs.RangeLaws.{placed_once, placed_past, sum_by-ext, sum_by-none, sum_by-range-suc, sum_take-suc}
use Rattle.mrp_netting.specs.PlanningData.{PairData, earliest, planned_release}
use Rattle.mrp_netting.proofs.PlannedReleases.{planned_release-none, planned_release-first, planned_release-later}

-- what the order of period t adds to the release of period r
abbrev pub part_in : ℕ → ℕ → List ℕ → ℕ → ℕ → ℕ
part_in lead e order r t = cond ((max t e - lead) == r) (slice_index order t) 0

-- an order is released in one period
part_here : (lead e : ℕ) (order : List ℕ) (r t : ℕ) → max t e - lead ≡ r → part_in lead e order r t ≡ slice_index order t
part_here lead e order r t is = cond-true ((max t e - lead) == r) (slice_index order t) 0 (eq-eqb (max t e - lead) r is)

part_elsewhere : (lead e : ℕ) (order : List ℕ) (r t : ℕ) → (max t e - lead ≡ r → ⊥) → part_in lead e order r t ≡ 0
part_elsewhere lead e order r t other = cond-false ((max t e - lead) == r) (slice_index order t) 0 (ne_eqb (max t e - lead) r other)

-- before the earliest release there is none
none_yet : (lead e : ℕ) (order : List ℕ) (r n : ℕ) → lead ≤ e → r + lead < e → sum_by (part_in lead e order r) (range_with_len 0 n) ≡ 0
none_yet lead e order r n within soon =
    sum_by-ext (part_in lead e order r) (λ t. 0) (range_with_len 0 n) (λ t. part_elsewhere lead e order r t (λ is. absurd (omega arith)))
    ∙ sum_by-none (range_with_len 0 n)

-- in it are those of all periods up to the earliest in which one comes in
all_before : (lead e : ℕ) (order : List ℕ) (r n : ℕ) → lead ≤ e → r + lead ≡ e
    → sum_by (part_in lead e order r) (range_with_len 0 n) ≡ sum (take (min n (suc e)) order)
all_before lead e order r zero within first = let none : min 0 (suc e) ≡ 0 = omega arith in sym (ap (λ (m : ℕ). sum (take m order)) none)
all_before lead e order r (suc n) within first =
    let more = sum_by-range-suc (part_in lead e order r) n in
    let before = all_before lead e order r n within first in
    ⊎_elim
    (λ (up_to : n < suc e).
    let now : min n (suc e) ≡ n = omega arith in
    let then : min (suc n) (suc e) ≡ suc n = omega arith in
    omega (
      arith,
      more,
      before,
      part_here lead e order r n (omega arith),
      ap (λ (m : ℕ). sum (take m order)) now,
      ap (λ (m : ℕ). sum (take m order)) then,
      sum_take-suc order n,
    ))
    (λ (past : suc e ≤ n).
    let now : min n (suc e) ≡ suc e = omega arith in
    let then : min (suc n) (suc e) ≡ suc e = omega arith in
    omega (
      arith,
      more,
      before,
      part_elsewhere lead e order r n (λ is. absurd (omega arith)),
      ap (λ (m : ℕ). sum (take m order)) now,
      ap (λ (m : ℕ). sum (take m order)) then,
    ))
    (cases_lt n (suc e))

whole_row : (order : List ℕ) (m : ℕ) → sum (take (min (length order) m) order) ≡ sum (take m order)
whole_row order m =
    ⊎_elim
    (λ (short : length order < m).
    let now : min (length order) m ≡ length order = omega arith in
    ap (λ (k : ℕ). sum (take k order)) now ∙ ap sum (take_all (length order) order (omega arith)) ∙ sym (ap sum (take_all m order (omega arith))))
    (λ (long : m ≤ length order).
    let now : min (length order) m ≡ m = omega arith in
    ap (λ (k : ℕ). sum (take k order)) now)
    (cases_lt (length order) m)

-- later that of the period a lead time later
one_only : (lead e : ℕ) (order : List ℕ) (r : ℕ) → lead ≤ e → e < r + lead
    → sum_by (part_in lead e order r) (range_with_len 0 (length order)) ≡ slice_index order (r + lead)
one_only lead e order r within later =
    let from = r + lead in
    let v = slice_index order from in
    let each = λ (t : ℕ).
    ⊎_elim
    (λ (here : from ≡ t).
    part_here lead e order r t (omega arith) ∙ sym (ap (λ (k : ℕ). slice_index order k) here)
    ∙ sym (cond-true (from == t) v 0 (eq-eqb from t here)))
    (λ (there : from ≡ t → ⊥).
    part_elsewhere lead e order r t (λ is. absurd (omega arith)) ∙ sym (cond-false (from == t) v 0 (ne_eqb from t there)))
    (cases_eq from t) in
    let same = sum_by-ext (part_in lead e order r) (λ t. cond (from == t) v 0) (range_with_len 0 (length order)) each in
    ⊎_elim
    (λ (inside : from < length order). same ∙ placed_once v from (length order) inside)
    (λ (outside : length order ≤ from). same ∙ placed_past v from (length order) outside ∙ sym (get_or_past order from 0 outside))
    (cases_lt from (length order))

-- what a period releases is the sum of its orders
pub released_together : (d : PairData) (order : List ℕ) (r : ℕ)
    → planned_release d order r ≡ sum_by (part_in d.params.lead (earliest d) order r) (range_with_len 0 (length order))
released_together d order r =
    let lead = d.params.lead in
    let e = earliest d in
    let within : lead ≤ e = omega arith in
    ⊎_elim
    (λ (soon : r + lead < e). planned_release-none d order r soon ∙ sym (none_yet lead e order r (length order) within soon))
    (λ (rest : e ≤ r + lead).
    ⊎_elim
    (λ (first : r + lead ≡ e).
    planned_release-first d order r first ∙ ap (λ (m : ℕ). sum (take (suc m) order)) first ∙ sym (whole_row order (suc e))
    ∙ sym (all_before lead e order r (length order) within first))
    (λ (other : r + lead ≡ e → ⊥).
    let later : e < r + lead = omega arith in
    planned_release-later d order r later ∙ sym (one_only lead e order r within later))
    (cases_eq (r + lead) e))
    (cases_lt (r + lead) e)
