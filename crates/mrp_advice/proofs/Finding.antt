-- Advice: when an open order is needed, which is the first period that passes a test.
use Rattle.std.proofs.Common.{◌≡◌, ℕ, zero, suc, ◌+◌, ◌<◌, ◌≤◌, Bool, true, false, cond, inl, inr, refl, sym, ap, ◌∙◌, arith}
use Rattle.std.specs.Prelude.{Option, Some, None}
use Rattle.std.specs.List.{find, range_with_len}
use Rattle.std.proofs.lemmas.Bool.{cases_Bool, cases_eq, false≢true, leb-true, le-leb, true≢false}
use Rattle.mrp_advice.specs.Needed.{is_needed_by}

module _ (p : ℕ → Bool) where
  found_here : (a n : ℕ) → p a ≡ true → find p (range_with_len a (suc n)) ≡ Some a
  found_here a n is = ap (λ (b : Bool). cond b (Some a) (find p (range_with_len (a + 1) n))) is

  found_later : (a n : ℕ) → p a ≡ false → find p (range_with_len a (suc n)) ≡ find p (range_with_len (a + 1) n)
  found_later a n is = ap (λ (b : Bool). cond b (Some a) (find p (range_with_len (a + 1) n))) is

  -- the first one comes by t only where one that comes by t passes
  pub found_by : (a n t : ℕ) → is_needed_by t (find p (range_with_len a n)) ≡ true → (u : ℕ) × (u < a + n) × (u ≤ t) × (p u ≡ true)
  found_by a zero t is = absurd (false≢true is)
  found_by a (suc n) t is = elim (cases_Bool (p a)) [
    | inl here ↦ (a, omega arith, leb-true a t (sym (ap (is_needed_by t) (found_here a n here)) ∙ is), here)
    | inr later ↦
        let rest = found_by (a + 1) n t (sym (ap (is_needed_by t) (found_later a n later)) ∙ is) in
        (rest.0, omega (arith, rest.1), rest.2, rest.3)
  ]

  -- and where one passes, the first comes no later
  pub found_in : (a n u t : ℕ) → a ≤ u → u < a + n → u ≤ t → p u ≡ true → is_needed_by t (find p (range_with_len a n)) ≡ true
  found_in a zero u t low high by passes = absurd (omega arith)
  found_in a (suc n) u t low high by passes = elim (cases_Bool (p a)) [
    | inl here ↦ ap (is_needed_by t) (found_here a n here) ∙ le-leb a t (omega arith)
    | inr later ↦ elim (cases_eq a u) [
      | inl same ↦ absurd (true≢false (sym passes ∙ sym (ap p same) ∙ later))
      | inr apart ↦ ap (is_needed_by t) (found_later a n later) ∙ found_in (a + 1) n u t (omega (arith, apart)) (omega arith) by passes
    ]
  ]

  -- so none passes up to t where the first doesn't come by t
  pub passed_over : (n t : ℕ) → t < n → is_needed_by t (find p (range_with_len 0 n)) ≡ false → p t ≡ false
  passed_over n t within is = elim (cases_Bool (p t)) [
    | inl passes ↦ absurd (true≢false (sym (found_in 0 n t t (omega arith) (omega arith) (omega arith) passes) ∙ is))
    | inr fails ↦ fails
  ]

  -- nor does one before t
  pub passed_before : (n u t : ℕ) → u < n → u ≤ t → is_needed_by t (find p (range_with_len 0 n)) ≡ false → p u ≡ false
  passed_before n u t within early is = elim (cases_Bool (p u)) [
    | inl passes ↦ absurd (true≢false (sym (found_in 0 n u t (omega arith) (omega arith) early passes) ∙ is))
    | inr fails ↦ fails
  ]

  -- the first that passes is found, where those before it don't
  find_first : (a n k : ℕ) → a ≤ k → k < a + n → p k ≡ true → ((u : ℕ) → a ≤ u → u < k → p u ≡ false) → find p (range_with_len a n) ≡ Some k
  find_first a zero k low high passes before = absurd (omega arith)
  find_first a (suc n) k low high passes before = elim (cases_eq a k) [
    | inl same ↦ found_here a n (ap p same ∙ passes) ∙ ap (λ (z : ℕ). Some z) same
    | inr apart ↦
        found_later a n (before a (omega arith) (omega (arith, apart)))
        ∙ find_first (a + 1) n k (omega (arith, apart)) (omega arith) passes (λ u more less. before u (omega arith) less)
  ]

  pub first_is : (n k : ℕ) → k < n → p k ≡ true → ((u : ℕ) → u < k → p u ≡ false) → find p (range_with_len 0 n) ≡ Some k
  first_is n k within passes before = find_first 0 n k (omega arith) (omega arith) passes (λ u low less. before u less)

  find_none : (a n : ℕ) → ((u : ℕ) → a ≤ u → u < a + n → p u ≡ false) → find p (range_with_len a n) ≡ None
  find_none a zero fails = refl
  find_none a (suc n) fails =
      found_later a n (fails a (omega arith) (omega arith)) ∙ find_none (a + 1) n (λ u low high. fails u (omega arith) (omega arith))

  pub none_is : (n : ℕ) → ((u : ℕ) → u < n → p u ≡ false) → find p (range_with_len 0 n) ≡ None
  none_is n fails = find_none 0 n (λ u low high. fails u (omega arith))

-- tests that agree on each period find the same one
same_from : (p q : ℕ → Bool) (a n : ℕ) → ((u : ℕ) → u < a + n → p u ≡ q u) → find p (range_with_len a n) ≡ find q (range_with_len a n)
same_from p q a zero same = refl
same_from p q a (suc n) same =
    ap (λ (b : Bool). cond b (Some a) (find p (range_with_len (a + 1) n))) (same a (omega arith))
    ∙ ap (λ (o : Option ℕ). cond (q a) (Some a) o) (same_from p q (a + 1) n (λ u h. same u (omega (arith, h))))

pub find_same : (p q : ℕ → Bool) (n : ℕ) → ((u : ℕ) → u < n → p u ≡ q u) → find p (range_with_len 0 n) ≡ find q (range_with_len 0 n)
find_same p q n same = same_from p q 0 n (λ u h. same u (omega (arith, h)))
