-- Advice to cancel: of open orders of a sort those before one that are needed in some period,
-- and those that come by a period.
use Rattle.std.proofs.Common.{◌≡◌, ◌∙◌, ℕ, zero, suc, ◌+◌, ◌<◌, ◌≤◌, ◌⊎◌, ◌&&◌, Bool, true, false, cond, min, inl, inr, List, length, take}
use Rattle.std.proofs.Common.{refl, sym, ap, arith, add-one}
use Rattle.std.specs.Prelude.{Option, Some, None, is_some}
use Rattle.std.specs.List.{range_with_len, sum_by}
use Rattle.std.proofs.lemmas.Bool.{cases_Bool, cond-true, cond-false, false≢true, le-leb, true≢false}
use Rattle.std.proofs.lemmas.List.Sums.{sum_by_more}
use Rattle.mrp_qty.proofs.RangeLaws.{sum_by-range-suc}
use Rattle.mrp_netting.specs.declared.planning_data.Policy.{Policy}
use Rattle.mrp_netting.specs.PlanningData.{PairData}
use Rattle.mrp_advice.specs.declared.orders.OpenOrder.{OpenOrder}
use Rattle.mrp_advice.specs.Needed.{asked_by, is_needed_by, may_come_sooner, needed, pieces_of, there_beside}
use Rattle.mrp_advice.specs.OpenOrders.{no_order, open_order_at}
use Rattle.mrp_advice.proofs.SortNeeds.{enough, needs_rise}
use Rattle.mrp_advice.proofs.Sorts.{pieces_is, pieces_more, same_or_other, weight, weight_other}

zero_if : (b : Bool) (q : ℕ) → q ≡ 0 → cond b q 0 ≡ 0
zero_if true q none = none
zero_if false q none = refl

module _ (policy : Policy) (orders : List OpenOrder) (s : Bool) where
  abbrev sort : ℕ → Bool
  sort i = may_come_sooner policy (open_order_at orders i)

  abbrev heavy : ℕ → ℕ
  heavy i = weight policy s (open_order_at orders i)

  abbrev before : ℕ → ℕ
  before i = pieces_of policy s (take i orders)

  -- the pieces of the sort among the first orders that pass a test
  abbrev pub passing : (ℕ → Bool) → ℕ → ℕ
  passing f k = sum_by (λ i. cond (f i) (heavy i) 0) (range_with_len 0 k)

  before_next : (k : ℕ) → k < length orders → before (suc k) ≡ before k + heavy k
  before_next k within = ap before (sym (add-one k)) ∙ pieces_more policy s orders k within

  passing-le : (f : ℕ → Bool) (k : ℕ) → k ≤ length orders → passing f k ≤ before k
  passing-le f zero few = omega (arith, pieces_is policy s (take zero orders))
  passing-le f (suc k) few =
      elim (cases_Bool (f k)) as (λ _. passing f (suc k) ≤ before (suc k)) [
        | inl passes ↦
            omega (
              arith,
              sum_by-range-suc (λ i. cond (f i) (heavy i) 0) k,
              cond-true (f k) (heavy k) 0 passes,
              before_next k (omega arith),
              passing-le f k (omega arith),
            )
        | inr fails ↦
            omega (
              arith,
              sum_by-range-suc (λ i. cond (f i) (heavy i) 0) k,
              cond-false (f k) (heavy k) 0 fails,
              before_next k (omega arith),
              passing-le f k (omega arith),
            )
      ]

  -- where an order of the sort passes, those of it before it do
  abbrev pub IsFront : (ℕ → Bool) → Type 0
  IsFront f = (i j : ℕ) → i ≤ j → j < length orders → sort i ≡ s → sort j ≡ s → f j ≡ true → f i ≡ true

  all_pass : (f : ℕ → Bool) → IsFront f → (k n : ℕ) → n ≤ k → k < length orders → sort k ≡ s → f k ≡ true → passing f n ≡ before n
  all_pass f front k zero few within own passes = sym (pieces_is policy s (take zero orders))
  all_pass f front k (suc n) few within own passes =
      let so_far = all_pass f front k n (omega arith) within own passes in
      let more = sum_by-range-suc (λ i. cond (f i) (heavy i) 0) n in
      let next = before_next n (omega arith) in
      elim (same_or_other (sort n) s) as (λ _. passing f (suc n) ≡ before (suc n)) [
        | inl mine ↦
            let here = front n k (omega arith) within mine own passes in
            omega (arith, so_far, more, next, cond-true (f n) (heavy n) 0 here)
        | inr other ↦
            let none = weight_other policy s (open_order_at orders n) other in
            omega (arith, so_far, more, next, none, zero_if (f n) (heavy n) none)
      ]

  abbrev both : (ℕ → Bool) → (ℕ → Bool) → ℕ → Bool
  both f g i = f i && g i

  both_cases : (a b : Bool) (q : ℕ) → cond (a && b) q 0 ≡ cond a (cond b q 0) 0
  both_cases true b q = refl
  both_cases false b q = refl

  -- of two fronts those that pass both are the shorter one
  pub shorter : (f g : ℕ → Bool) → IsFront f → IsFront g → (k : ℕ) → k ≤ length orders → passing (both f g) k ≡ min (passing f k) (passing g k)
  shorter f g f_is g_is zero few = refl
  shorter f g f_is g_is (suc k) few =
      let so_far = shorter f g f_is g_is k (omega arith) in
      let moref = sum_by-range-suc (λ i. cond (f i) (heavy i) 0) k in
      let moreg = sum_by-range-suc (λ i. cond (g i) (heavy i) 0) k in
      let more = sum_by-range-suc (λ i. cond (both f g i) (heavy i) 0) k in
      let split = both_cases (f k) (g k) (heavy k) in
      let lef = passing-le f k (omega arith) in
      let leg = passing-le g k (omega arith) in
      elim (same_or_other (sort k) s) as (λ _. passing (both f g) (suc k) ≡ min (passing f (suc k)) (passing g (suc k))) [
        | inl own ↦ elim (cases_Bool (f k)) as (λ _. passing (both f g) (suc k) ≡ min (passing f (suc k)) (passing g (suc k))) [
          | inl passes ↦
              let allf = all_pass f f_is k k (omega arith) (omega arith) own passes in
              let inf = cond-true (f k) (heavy k) 0 passes in
              let inner = cond-true (f k) (cond (g k) (heavy k) 0) 0 passes in
              elim (cases_Bool (g k)) as (λ _. passing (both f g) (suc k) ≡ min (passing f (suc k)) (passing g (suc k))) [
                | inl too ↦
                    omega (
                      arith,
                      so_far,
                      moref,
                      moreg,
                      more,
                      split,
                      inf,
                      inner,
                      cond-true (g k) (heavy k) 0 too,
                      allf,
                      all_pass g g_is k k (omega arith) (omega arith) own too,
                    )
                | inr not_g ↦ omega (arith, so_far, moref, moreg, more, split, inf, inner, cond-false (g k) (heavy k) 0 not_g, allf, leg)
              ]
          | inr fails ↦
              let outf = cond-false (f k) (heavy k) 0 fails in
              let inner = cond-false (f k) (cond (g k) (heavy k) 0) 0 fails in
              elim (cases_Bool (g k)) as (λ _. passing (both f g) (suc k) ≡ min (passing f (suc k)) (passing g (suc k))) [
                | inl passes ↦
                    omega (
                      arith,
                      so_far,
                      moref,
                      moreg,
                      more,
                      split,
                      outf,
                      inner,
                      cond-true (g k) (heavy k) 0 passes,
                      all_pass g g_is k k (omega arith) (omega arith) own passes,
                      lef,
                    )
                | inr not_g ↦ omega (arith, so_far, moref, moreg, more, split, outf, inner, cond-false (g k) (heavy k) 0 not_g)
              ]
        ]
        | inr other ↦
            let none = weight_other policy s (open_order_at orders k) other in
            omega (arith, so_far, moref, moreg, more, none, zero_if (f k) (heavy k) none, zero_if (g k) (heavy k) none, zero_if (both f g k) (heavy k) none)
      ]

-- ---- orders that are needed in some period

some_by : (o : Option ℕ) → is_some o ≡ true → (t : ℕ) × (is_needed_by t o ≡ true)
some_by None some = absurd (false≢true some)
some_by (Some u) some = (u, le-leb u u (omega arith))

by_some : (t : ℕ) (o : Option ℕ) → is_needed_by t o ≡ true → is_some o ≡ true
by_some t None by = absurd (false≢true by)
by_some t (Some u) by = refl

none_by : (t : ℕ) (o : Option ℕ) → is_some o ≡ false → is_needed_by t o ≡ false
none_by t None none = refl
none_by t (Some u) none = absurd (true≢false none)

module _ (d : PairData) (orders : List OpenOrder) (s : Bool) where
  abbrev pub keeps : ℕ → Bool
  keeps i = is_some (needed d orders i)

  -- where one is needed in some period, so are those of its sort before it
  pub keeps_front : IsFront d.policy orders s keeps
  keeps_front i j less within own mine some =
      let then = some_by (needed d orders j) some in
      by_some then.0 (needed d orders i) (needs_rise d orders then.0 i j less (own ∙ sym mine) then.1)

  abbrev IsEnough : ℕ → Type 0
  IsEnough pieces = (t : ℕ) → t < length d.gross → asked_by d t ≤ d.params.on_hand + there_beside d s t + pieces

  -- of the first orders of a sort all are needed, or those that are, are enough in each period
  pub keep_enough : (k : ℕ) → k ≤ length orders
      → IsEnough (passing d.policy orders s keeps k) ⊎ (pieces_of d.policy s (take k orders) ≤ passing d.policy orders s keeps k)
  keep_enough zero few = inr (omega (arith, pieces_is d.policy s (take zero orders)))
  keep_enough (suc k) few =
      let weighs : ℕ → ℕ = λ i. weight d.policy s (open_order_at orders i) in
      let more = sum_by-range-suc (λ i. cond (keeps i) (weighs i) 0) k in
      let next : pieces_of d.policy s (take (k + 1) orders) ≡ pieces_of d.policy s (take (suc k) orders) =
      ap (λ (n : ℕ). pieces_of d.policy s (take n orders)) (add-one k) in
      let grown = pieces_more d.policy s orders k (omega arith) in
      elim (keep_enough k (omega arith)) [
        | inl done ↦ inl (λ t h. omega (arith, done t h, more))
        | inr all ↦ elim (cases_Bool (keeps k)) [
          | inl some ↦ inr (omega (arith, all, more, next, grown, cond-true (keeps k) (weighs k) 0 some))
          | inr none ↦ elim (same_or_other (may_come_sooner d.policy (open_order_at orders k)) s) [
            | inl own ↦ inl (λ t h. omega (arith, all, more, enough d orders k t t s own h (omega arith) (none_by t (needed d orders k) none)))
            | inr other ↦ inr (omega (arith, all, more, next, grown, weight_other d.policy s (open_order_at orders k) other))
          ]
        ]
      ]

-- ---- sums over a list by its places

pub by_place : (g : OpenOrder → ℕ) (orders : List OpenOrder) (k : ℕ) → k ≤ length orders
    → sum_by g (take k orders) ≡ sum_by (λ i. g (open_order_at orders i)) (range_with_len 0 k)
by_place g orders zero few = refl
by_place g orders (suc k) few =
    omega (
      arith,
      by_place g orders k (omega arith),
      ap (λ (n : ℕ). sum_by g (take n orders)) (add-one k),
      sum_by_more g orders k no_order (omega arith),
      sum_by-range-suc (λ i. g (open_order_at orders i)) k,
    )
