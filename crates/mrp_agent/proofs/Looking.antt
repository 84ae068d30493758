-- The agent: places that it looks for among its lanes and pairs.
use Rattle.std.proofs.Common.{◌≡◌, ℕ, zero, suc, ◌+◌, ◌<◌, ◌≤◌, ltb, Bool, true, false, cond, Some, None, List, [], ◌∷◌, inl, inr, length, get_or, position}
use Rattle.std.proofs.Common.{unwrap_or, refl, sym, ap, ◌∙◌, arith}
use Rattle.std.specs.List.{Contains, count_by, position_or_len}
use Rattle.std.proofs.lemmas.Bool.{cases_Bool, cases_lt, lt-ltb, ltb-true}
use Rattle.std.proofs.lemmas.Bool.Decides.{nat_tests}
use Rattle.std.proofs.lemmas.List.Sums.{fails_before_first, sum_by-cons, get_or-le-sum_by}
use Rattle.mrp_plant_view.proofs.Once.{one, none}

-- a place is in the list or just past its end
pub place_bound : {X : Type 0} (p : X → Bool) (xs : List X) → position_or_len p xs ≤ length xs
place_bound p [] = omega arith
place_bound {X} p (x ∷ xs) =
    elim (cases_Bool (p x)) as (λ _. position_or_len p (x ∷ xs) ≤ length (x ∷ xs)) [
      | inl here ↦ let z : position_or_len p (x ∷ xs) ≡ 0 = rw here refl in omega (arith, z)
      | inr later ↦ let z : position_or_len p (x ∷ xs) ≡ 1 + position_or_len p xs = rw later refl in omega (arith, z, place_bound p xs)
    ]

pub place_or_len : {X : Type 0} (p : X → Bool) (xs : List X) → unwrap_or (position p xs) (length xs) ≡ position_or_len p xs
place_or_len {X} p xs =
    let n : ℕ = position_or_len p xs in
    elim (cases_lt n (length xs)) as (λ _. unwrap_or (cond (ltb n (length xs)) (Some n) None) (length xs) ≡ n) [
      | inl within ↦ rw (lt-ltb n (length xs) within) refl
      | inr past ↦ let f : ltb n (length xs) ≡ false = grind (arith, nat_tests) in rw f (omega (arith, place_bound p xs))
    ]

pub place_known : {X : Type 0} (p : X → Bool) (xs : List X) → position_or_len p xs < length xs → position p xs ≡ Some (position_or_len p xs)
place_known {X} p xs within = ap (λ (b : Bool). cond b (Some (position_or_len p xs)) None) (lt-ltb (position_or_len p xs) (length xs) within)

-- a place that was found
pub place_at : {X : Type 0} (p : X → Bool) (xs : List X) (k : ℕ) → position p xs ≡ Some k → (position_or_len p xs ≡ k) × (k < length xs)
place_at {X} p xs k e =
    elim (cases_Bool (ltb (position_or_len p xs) (length xs))) [
      | inl inside ↦
          let some : Some (position_or_len p xs) ≡ Some k = rw inside at e in
          let same : position_or_len p xs ≡ k = cc in
          let low = ltb-true (position_or_len p xs) (length xs) inside in
          (same, omega (arith, low, same))
      | inr past ↦ absurd (cc (rw past at e))
    ]

-- what is in the list is found
pub place_found : {X : Type 0} (p : X → Bool) (xs : List X) (x : X) → Contains xs x → p x ≡ true → position_or_len p xs < length xs
place_found {X} p xs x (k, within, is) passes =
    elim (cases_lt (position_or_len p xs) (length xs)) as (λ _. position_or_len p xs < length xs) [
      | inl low ↦ low
      | inr past ↦
          let fails = fails_before_first p xs k x (omega arith) in
          let no : true ≡ false = sym passes ∙ sym (ap p is) ∙ fails in
          absurd (cc no)
    ]

-- the only one that passes
pub place_is_only : {X : Type 0} (p : X → Bool) (xs : List X) (k : ℕ) (d : X) → count_by p xs ≤ 1 → k < length xs → p (get_or xs k d) ≡ true
    → position_or_len p xs ≡ k
place_is_only p [] k d few within passes = absurd (omega arith)
place_is_only p (x ∷ xs) zero d few within passes = rw passes refl
place_is_only {X} p (x ∷ xs) (suc k) d few within passes =
    let inside : k < length xs = omega arith in
    let sum = sum_by-cons (λ (x : X). cond (p x) 1 0) x xs in
    let later : cond (p (get_or xs k d)) 1 0 ≤ count_by p xs = get_or-le-sum_by (λ (x : X). cond (p x) 1 0) xs k d inside in
    let some : cond (p (get_or xs k d)) 1 0 ≡ 1 = one (p (get_or xs k d)) passes in
    elim (cases_Bool (p x)) as (λ _. position_or_len p (x ∷ xs) ≡ suc k) [
      | inl here ↦ absurd (omega (arith, one (p x) here, sum, later, some))
      | inr other ↦
          let z : position_or_len p (x ∷ xs) ≡ 1 + position_or_len p xs = rw other refl in
          let rest = place_is_only p xs k d (omega (arith, none (p x) other, sum)) inside passes in
          omega (arith, z, rest)
    ]

pub only_place : {X : Type 0} (p : X → Bool) (xs : List X) (j k : ℕ) (d : X) → count_by p xs ≤ 1 → j < length xs → k < length xs → p (get_or xs j d) ≡ true
    → p (get_or xs k d) ≡ true → j ≡ k
only_place p xs j k d few inj ink here there = sym (place_is_only p xs j d few inj here) ∙ place_is_only p xs k d few ink there
