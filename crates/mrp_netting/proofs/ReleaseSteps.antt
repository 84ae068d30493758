-- Netting one pair: the loop over its orders that are released from planning data.
use Rattle.std.specs.Prelude.{◌≡◌, ℕ, ◌+◌, ◌≤◌, ◌<◌, List, length, sum, take, slice_index, slice_set, suc}
use Rattle.std.proofs.Common.{arith, ap, ◌∙◌, sym, ⊎_elim, get_or-set_other}
use Rattle.std.proofs.lemmas.Bool.{cases_eq, cases_lt}
use Rattle.std.proofs.lemmas.Grind.{get_or-set_at}
use Rattle.std.proofs.lemmas.List.{get_or_past, length-set}
use Rattle.std.proofs.lemmas.List.FromFn.{fill_by_all}
use Rattle.mrp_netting.specs.PlanningData.{PairData, earliest, release_at, release_row}
use Rattle.mrp_netting.proofs.PlannedReleases.{planned_release-none, planned_release-first, planned_release-later}

-- released are the orders that are due before t, and the rest has firm planned orders alone
pub record IsReleasedTo (d : PairData) (order release : List ℕ) (t : ℕ) : Type 0 where
  pub size : length release ≡ length d.gross
  pub done : (k : ℕ) → k < length d.gross → k + d.params.lead < t → slice_index release k ≡ release_at d order k
  pub rest : (k : ℕ) → t ≤ k + d.params.lead → slice_index release k ≡ slice_index d.firm_start k

-- in the first period all that are due up to then
pub released-start : (d : PairData) (order row : List ℕ) (p q : ℕ) → length row ≡ length d.gross → p < length d.gross
    → ((k : ℕ) → slice_index row k ≡ slice_index d.firm_start k) → p + d.params.lead ≡ earliest d → q ≡ sum (take (earliest d + 1) order)
    → IsReleasedTo d order (slice_set row p (slice_index row p + q)) (earliest d + 1)
released-start d order row p q size within firm first all = record {
  size = length-set row p _ ∙ size;
  done = λ k below early.
      ⊎_elim
      (λ (e : p ≡ k).
      let read = get_or-set_at row p k (slice_index row p + q) 0 (sym e) (omega arith) in
      let here = ap (λ (n : ℕ). sum (take n order)) (let s : suc (k + d.params.lead) ≡ earliest d + 1 = omega arith in s) in
      let at = ap (λ (i : ℕ). slice_index row i) e in
      omega (arith, read, all, at, firm k, here, planned_release-first d order k (omega arith)))
      (λ (ne : p ≡ k → ⊥).
      let read = get_or-set_other row p k (slice_index row p + q) 0 (λ e. ne (sym e)) in
      omega (arith, read, firm k, planned_release-none d order k (omega arith)))
      (cases_eq p k);
  rest = λ k late.
      get_or-set_other row p k (slice_index row p + q) 0 (λ e. absurd (omega arith)) ∙ firm k;
}

-- then each a lead time before it is due
pub released-step : (d : PairData) (order release : List ℕ) (t p q : ℕ) → IsReleasedTo d order release t → earliest d < t → t < length d.gross
    → p + d.params.lead ≡ t → q ≡ slice_index order t
    → IsReleasedTo d order (slice_set release p (slice_index release p + q)) (t + 1)
released-step d order release t p q is late within place here = record {
  size = length-set release p _ ∙ is.size;
  done = λ k below early.
      ⊎_elim
      (λ (e : p ≡ k).
      let read = get_or-set_at release p k (slice_index release p + q) 0 (sym e) (omega (arith, is.size)) in
      let due = ap (λ (i : ℕ). slice_index order i) (let s : k + d.params.lead ≡ t = omega arith in s) in
      let at = ap (λ (i : ℕ). slice_index release i) e in
      omega (arith, read, here, at, due, is.rest k (omega arith), planned_release-later d order k (omega arith)))
      (λ (ne : p ≡ k → ⊥).
      get_or-set_other release p k (slice_index release p + q) 0 (λ e. ne (sym e)) ∙ is.done k below (omega arith))
      (cases_eq p k);
  rest = λ k past.
      get_or-set_other release p k (slice_index release p + q) 0 (λ e. absurd (omega arith)) ∙ is.rest k (omega arith);
}

-- at the end nothing is left
pub released-end : (d : PairData) (order release : List ℕ) (t : ℕ) → IsReleasedTo d order release t → earliest d < t
    → length order ≡ length d.gross → length d.gross ≤ t → release ≡ release_row d order
released-end d order release t is late size end =
    fill_by_all (release_at d order) release (length d.gross) 0 is.size
    (λ k below.
    ⊎_elim
    (λ (early : k + d.params.lead < t). is.done k below early)
    (λ (past : t ≤ k + d.params.lead).
    omega (
      arith,
      is.rest k past,
      planned_release-later d order k (omega arith),
      get_or_past order (k + d.params.lead) 0 (omega arith),
    ))
    (cases_lt (k + d.params.lead) t))
