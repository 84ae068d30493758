-- The view of one plant: its numbers, each once, by how many elements of a list have a number.
use Rattle.std.proofs.Common.{◌≡◌, ℕ, zero, suc, ◌+◌, ◌<◌, ◌≤◌, Bool, true, false, cond, eqb, List, [], ◌∷◌, inl, inr, get_or, map, refl, sym, ap, ◌∙◌, subst}
use Rattle.std.proofs.Common.{arith}
use Rattle.std.specs.List.{All, IsDistinct, count_by, filter, range_with_len}
use Rattle.std.proofs.lemmas.Bool.{cases_Bool, cases_eq, eq-eqb, eqb-false, ne_eqb}
use Rattle.std.proofs.lemmas.List.Elements.{All-head, All-tail, All-from_recursion}
use Rattle.std.proofs.lemmas.List.Sums.{sum_by-cons}
use Rattle.std.proofs.lemmas.Map.Keys.{IsDistinct-head, IsDistinct-tail}
use Rattle.mrp_net.proofs.Sharing.{sum_map}

-- what a test counts
pub one : (b : Bool) → b ≡ true → ◌≡◌ {A = ℕ} (cond b 1 0) 1
one b h = ap (λ (z : Bool). let n : ℕ = cond z 1 0 in n) h

pub none : (b : Bool) → b ≡ false → ◌≡◌ {A = ℕ} (cond b 1 0) 0
none b h = ap (λ (z : Bool). let n : ℕ = cond z 1 0 in n) h

at_most_one : (b : Bool) → cond b 1 0 ≤ 1
at_most_one true = omega arith
at_most_one false = omega arith

pub count-map : {X Y : Type 0} (p : Y → Bool) (f : X → Y) (xs : List X) → count_by p (map f xs) ≡ count_by (λ x. p (f x)) xs
count-map p f xs = sum_map (λ y. cond (p y) 1 0) f xs

pub count_none : {X : Type 0} (p : X → Bool) (xs : List X) → All (λ x. p x ≡ false) xs → count_by p xs ≡ 0
count_none p [] h = refl
count_none p (x ∷ xs) h =
    omega (arith, sum_by-cons (λ x. cond (p x) 1 0) x xs, none (p x) (All-head (λ x. p x ≡ false) x xs h), count_none p xs (All-tail (λ x. p x ≡ false) x xs h))

-- a test that passes wherever another does counts no fewer
pub count_within : {X : Type 0} (p q : X → Bool) (xs : List X) → All (λ x. p x ≡ true → q x ≡ true) xs → count_by p xs ≤ count_by q xs
count_within p q [] h = omega arith
count_within p q (x ∷ xs) h =
    let later : count_by p xs ≤ count_by q xs = count_within p q xs (All-tail (λ x. p x ≡ true → q x ≡ true) x xs h) in
    elim (cases_Bool (p x)) as (λ _. count_by p (x ∷ xs) ≤ count_by q (x ∷ xs)) [
      | inl passes ↦ omega (
        arith,
        sum_by-cons (λ x. cond (p x) 1 0) x xs,
        sum_by-cons (λ x. cond (q x) 1 0) x xs,
        one (p x) passes,
        one (q x)
            (All-head (λ x. p x ≡ true → q x ≡ true) x xs h passes),
        later,
      )
      | inr fails ↦ omega (arith, sum_by-cons (λ x. cond (p x) 1 0) x xs, sum_by-cons (λ x. cond (q x) 1 0) x xs, none (p x) fails, later)
    ]

pub count-filter : {X : Type 0} (p q : X → Bool) (xs : List X) → count_by p (filter q xs) ≤ count_by p xs
count-filter p q [] = omega arith
count-filter {X} p q (x ∷ xs) =
    let later : count_by p (filter q xs) ≤ count_by p xs = count-filter p q xs in
    let here = sum_by-cons (λ x. cond (p x) 1 0) x xs in
    elim (cases_Bool (q x)) as (λ _. count_by p (filter q (x ∷ xs)) ≤ count_by p (x ∷ xs)) [
      | inl kept ↦ subst (λ (b : Bool). count_by p (cond b (x ∷ filter q xs) (filter q xs)) ≤ count_by p (x ∷ xs)) (sym kept)
          (omega (arith, here, sum_by-cons (λ x. cond (p x) 1 0) x (filter q xs), later))
      | inr left ↦ subst (λ (b : Bool). count_by p (cond b (x ∷ filter q xs) (filter q xs)) ≤ count_by p (x ∷ xs)) (sym left) (omega (arith, here, later))
    ]

-- a number stands in a range once at most
not_below : (a n x : ℕ) → x < a → count_by (λ y. eqb y x) (range_with_len a n) ≡ 0
not_below a zero x h = refl
not_below a (suc n) x h =
    omega (
      arith,
      sum_by-cons (λ y. cond (eqb y x) 1 0) a (range_with_len (a + 1) n),
      none (eqb a x) (ne_eqb a x (λ e. omega arith)),
      not_below (a + 1) n x
          (omega arith),
    )

pub count_range : (a n x : ℕ) → count_by (λ y. eqb y x) (range_with_len a n) ≤ 1
count_range a zero x = omega arith
count_range a (suc n) x =
    let here = sum_by-cons (λ y. cond (eqb y x) 1 0) a (range_with_len (a + 1) n) in
    elim (cases_eq a x) as (λ _. count_by (λ y. eqb y x) (range_with_len a (suc n)) ≤ 1) [
      | inl e ↦ omega (arith, here, one (eqb a x) (eq-eqb a x e), not_below (a + 1) n x (omega arith))
      | inr ne ↦ omega (arith, here, none (eqb a x) (ne_eqb a x ne), count_range (a + 1) n x)
    ]

-- so does a key of which no two are the same
pub count_distinct : {X : Type 0} (key : X → ℕ) (k : ℕ) (xs : List X) → IsDistinct (λ a b. eqb (key a) (key b)) xs → count_by (λ x. eqb (key x) k) xs ≤ 1
count_distinct key k [] h = omega arith
count_distinct key k (x ∷ xs) h =
    let here = sum_by-cons (λ x. cond (eqb (key x) k) 1 0) x xs in
    let apart : All (λ y. eqb (key x) (key y) ≡ false) xs = All-from_recursion (λ y. eqb (key x) (key y) ≡ false) xs
    (IsDistinct-head (λ a b. eqb (key a) (key b)) x xs h) in
    elim (cases_eq (key x) k) as (λ _. count_by (λ x. eqb (key x) k) (x ∷ xs) ≤ 1) [
      | inl e ↦
          let others : All (λ y. eqb (key y) k ≡ false) xs = λ i d lt.
          ne_eqb (key (get_or xs i d)) k (λ f. eqb-false (key x) (key (get_or xs i d)) (apart i d lt) (e ∙ sym f)) in
          omega (arith, here, one (eqb (key x) k) (eq-eqb (key x) k e), count_none (λ y. eqb (key y) k) xs others)
      | inr ne ↦ omega (arith, here, none (eqb (key x) k) (ne_eqb (key x) k ne), count_distinct key k xs (IsDistinct-tail (λ a b. eqb (key a) (key b)) x xs h))
    ]
