-- Netting one pair: what of its planned orders is released in each period.
use Rattle.std.specs.Prelude.{◌≡◌, ℕ, ◌+◌, ◌≤◌, ◌<◌, ◌==◌, nat_lt, List, sum, sum_by, take, slice_index, zero, suc}
use Rattle.std.specs.List.{range_with_len}
use Rattle.std.proofs.Common.{arith, refl, ap, ◌∙◌, ⊎_elim, eq-eqb, ne_eqb, le-ltb, lt-ltb}
use Rattle.std.proofs.lemmas.Bool.{cases_eq, cases_lt, cond-true, cond-false}
use Rattle.mrp_qty.proofs.RangeLaws.{sum_take-suc, sum_by-range-suc}
use Rattle.mrp_netting.specs.PlanningData.{PairData, earliest, planned_release}
use Rattle.mrp_netting.proofs.RowSums.{slice_index-le, sum_take-most}

-- none before the first period in which any can be
pub planned_release-none : (d : PairData) (order : List ℕ) (u : ℕ) → u + d.params.lead < earliest d → planned_release d order u ≡ 0
planned_release-none d order u soon = cond-true (nat_lt (u + d.params.lead) (earliest d)) 0 _ (lt-ltb (u + d.params.lead) (earliest d) soon)

-- in it all that are due up to a lead time later
pub planned_release-first : (d : PairData) (order : List ℕ) (u : ℕ) → u + d.params.lead ≡ earliest d
    → planned_release d order u ≡ sum (take (suc (u + d.params.lead)) order)
planned_release-first d order u first =
    cond-false (nat_lt (u + d.params.lead) (earliest d)) 0 _ (le-ltb (u + d.params.lead) (earliest d) (omega arith))
    ∙ cond-true (u + d.params.lead == earliest d) _ _ (eq-eqb (u + d.params.lead) (earliest d) first)

-- then those that are due a lead time later
pub planned_release-later : (d : PairData) (order : List ℕ) (u : ℕ) → earliest d < u + d.params.lead
    → planned_release d order u ≡ slice_index order (u + d.params.lead)
planned_release-later d order u later =
    cond-false (nat_lt (u + d.params.lead) (earliest d)) 0 _ (le-ltb (u + d.params.lead) (earliest d) (omega arith))
    ∙ cond-false (u + d.params.lead == earliest d) _ _ (ne_eqb (u + d.params.lead) (earliest d) (λ e. absurd (omega arith)))

-- together they are all orders
planned-none : (d : PairData) (order : List ℕ) (n : ℕ) → n + d.params.lead ≤ earliest d → sum_by (planned_release d order) (range_with_len 0 n) ≡ 0
planned-none d order zero early = refl
planned-none d order (suc n) early =
    omega (
      arith,
      sum_by-range-suc (planned_release d order) n,
      planned-none d order n (omega arith),
      planned_release-none d order n (omega arith),
    )

pub planned-sum : (d : PairData) (order : List ℕ) (n : ℕ) → earliest d < n + d.params.lead
    → sum_by (planned_release d order) (range_with_len 0 n) ≡ sum (take (n + d.params.lead) order)
planned-sum d order zero past = absurd (omega arith)
planned-sum d order (suc n) past =
    let due_in = n + d.params.lead in
    let next : suc n + d.params.lead ≡ suc due_in = omega arith in
    let up_to = ap (λ (m : ℕ). sum (take m order)) next in
    let more = sum_by-range-suc (planned_release d order) n in
    ⊎_elim
    (λ (first : due_in ≡ earliest d).
    omega (arith, up_to, more, planned-none d order n (omega arith), planned_release-first d order n first))
    (λ (later : due_in ≡ earliest d → ⊥).
    let after : earliest d < due_in = omega arith in
    omega (arith, up_to, more, planned-sum d order n after, planned_release-later d order n after, sum_take-suc order due_in))
    (cases_eq due_in (earliest d))

-- none releases more than all orders
pub planned_release-le : (d : PairData) (order : List ℕ) (u : ℕ) → planned_release d order u ≤ sum order
planned_release-le d order u =
    let due_in = u + d.params.lead in
    ⊎_elim
    (λ (soon : due_in < earliest d). omega (arith, planned_release-none d order u soon))
    (λ (rest : earliest d ≤ due_in).
    ⊎_elim
    (λ (first : due_in ≡ earliest d). omega (arith, planned_release-first d order u first, sum_take-most order (suc due_in)))
    (λ (later : due_in ≡ earliest d → ⊥).
    let after : earliest d < due_in = omega arith in
    omega (arith, planned_release-later d order u after, slice_index-le order due_in))
    (cases_eq due_in (earliest d)))
    (cases_lt due_in (earliest d))
