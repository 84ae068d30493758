-- Records of a lane: elements counted by a number of theirs, each number once, for the blocks of the lane's text.
use Rattle.std.proofs.Common.{◌≡◌, ℕ, ◌+◌, ◌≤◌, ◌==◌, false, cond, suc, List, [], ◌∷◌, inl, inr, refl, sym, ◌∙◌, arith}
use Rattle.std.specs.List.{AllByRecursion, IsDistinct, count_by}
use Rattle.std.proofs.lemmas.Bool.{cases_Bool, eq-eqb, eqb-true, false≢true, cond-true, cond-false}
use Rattle.std.proofs.lemmas.List.Sums.{sum_by-cons}

module _ {X : Type 0} (key : X → ℕ) where
  -- how many elements have the number
  abbrev pub key_count : ℕ → List X → ℕ
  key_count n xs = count_by (λ x. key x == n) xs

  pub count_cons : (n : ℕ) (x : X) (xs : List X) → key_count n (x ∷ xs) ≡ cond (key x == n) 1 0 + key_count n xs
  count_cons n x xs = sum_by-cons (λ (y : X). cond (key y == n) 1 0) x xs

  pub count_own : (n : ℕ) (x : X) (xs : List X) → key x ≡ n → key_count n (x ∷ xs) ≡ suc (key_count n xs)
  count_own n x xs e =
      let one = cond-true {A = ℕ} (key x == n) 1 0 (eq-eqb (key x) n e) in
      omega (arith, count_cons n x xs)

  pub count_other : (n : ℕ) (x : X) (xs : List X) → (key x == n) ≡ false → key_count n (x ∷ xs) ≡ key_count n xs
  count_other n x xs e =
      let none = cond-false {A = ℕ} (key x == n) 1 0 e in
      omega (arith, count_cons n x xs)

  none_after : (n : ℕ) (x : X) (xs : List X) → key x ≡ n → AllByRecursion (λ y. (key x == key y) ≡ false) xs → key_count n xs ≡ 0
  none_after n x [] e h = refl
  none_after n x (y ∷ ys) e h =
      elim (cases_Bool (key y == n)) [
        | inl same ↦ absurd (false≢true (sym h.0 ∙ eq-eqb (key x) (key y) (e ∙ sym (eqb-true (key y) n same))))
        | inr apart ↦ count_other n y ys apart ∙ none_after n x ys e h.1
      ]

  pub at_most_one : (n : ℕ) (xs : List X) → IsDistinct (λ x y. key x == key y) xs → key_count n xs ≤ 1
  unfolding IsDistinct
  at_most_one n [] h = omega arith
  at_most_one n (x ∷ xs) h =
      elim (cases_Bool (key x == n)) [
        | inl own ↦
            let is : key x ≡ n = eqb-true (key x) n own in
            omega (arith, count_own n x xs is, none_after n x xs is h.0)
        | inr apart ↦ omega (arith, count_other n x xs apart, at_most_one n xs h.1)
      ]
