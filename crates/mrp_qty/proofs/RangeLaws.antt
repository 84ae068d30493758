-- Quantities: sums and lists of them over the periods 0 to n - 1, and over the front of a row.
use Rattle.std.specs.Prelude.{◌≡◌, ℕ, ◌+◌, ◌≤◌, ◌<◌, ◌==◌, if◌then◌else◌, List, []}
use Rattle.std.specs.Prelude.{◌∷◌, map, sum, sum_by, take, drop, slice_index, zero, suc}
use Rattle.std.specs.List.{range_with_len}
use Rattle.std.proofs.Common.{arith, refl, ◌∙◌, ap, ⊎_elim, eq-eqb, ne_eqb, add-zero, add-one, get_or-drop}
use Rattle.std.proofs.lemmas.Bool.{cases_eq, cond-true, cond-false}
use Rattle.std.proofs.lemmas.List.Sums.{sum_by-cons, sum_by-take-le, sum_by-take-drop}

pub sum_take-suc : (row : List ℕ) (t : ℕ) → sum (take (suc t) row) ≡ sum (take t row) + slice_index row t
sum_take-suc [] zero = refl
sum_take-suc [] (suc t) = refl
sum_take-suc (x ∷ xs) zero = refl
sum_take-suc (x ∷ xs) (suc t) =
    omega (arith, sum_by-cons (λ (y : ℕ). y) x (take (suc t) xs), sum_take-suc xs t, sum_by-cons (λ (y : ℕ). y) x (take t xs))

pub sum_drop_take-suc : (row : List ℕ) (t n : ℕ) → sum (take (suc n) (drop t row)) ≡ sum (take n (drop t row)) + slice_index row (t + n)
sum_drop_take-suc row t n =
    sum_take-suc (drop t row) n ∙ ap (λ (x : ℕ). sum (take n (drop t row)) + x) (get_or-drop t row n 0)

pub sum_drop_take-one : (row : List ℕ) (t : ℕ) → sum (take 1 (drop t row)) ≡ slice_index row t
sum_drop_take-one row t =
    let at : slice_index row (t + zero) ≡ slice_index row t = ap (λ (k : ℕ). slice_index row k) (add-zero t) in
    omega (arith, sum_drop_take-suc row t zero, at)

sum_by-range_from-suc : (f : ℕ → ℕ) (a n j : ℕ) → a + n ≡ j → sum_by f (range_with_len a (suc n)) ≡ sum_by f (range_with_len a n) + f j
sum_by-range_from-suc f a zero j e = let at : f a ≡ f j = ap f (omega arith) in omega (arith, at)
sum_by-range_from-suc f a (suc n) j e =
    omega (
      arith,
      sum_by-cons f a (range_with_len (a + 1) (suc n)),
      sum_by-range_from-suc f (a + 1) n j (omega arith),
      sum_by-cons f a (range_with_len (a + 1) n),
    )

-- one more period
pub sum_by-range-suc : (f : ℕ → ℕ) (n : ℕ) → sum_by f (range_with_len 0 (suc n)) ≡ sum_by f (range_with_len 0 n) + f n
sum_by-range-suc f n = sum_by-range_from-suc f 0 n n (omega arith)

-- what agrees at each period has one sum, one list
sum_by-range_from-same : (f g : ℕ → ℕ) (a n : ℕ) → ((k : ℕ) → a ≤ k → k < a + n → f k ≡ g k) → sum_by f (range_with_len a n) ≡ sum_by g (range_with_len a n)
sum_by-range_from-same f g a zero same = refl
sum_by-range_from-same f g a (suc n) same =
    let rest = sum_by-range_from-same f g (a + 1) n (λ k low high. same k (omega arith) (omega arith)) in
    let here : f a ≡ g a = same a (omega arith) (omega arith) in
    omega (arith, sum_by-cons f a (range_with_len (a + 1) n), sum_by-cons g a (range_with_len (a + 1) n), rest, here)

pub sum_by-range-same : (f g : ℕ → ℕ) (n : ℕ) → ((k : ℕ) → k < n → f k ≡ g k) → sum_by f (range_with_len 0 n) ≡ sum_by g (range_with_len 0 n)
sum_by-range-same f g n same = sum_by-range_from-same f g 0 n (λ k low high. same k (omega arith))

map-range_from-same : {X : Type 0} (f g : ℕ → X) (a n : ℕ) → ((k : ℕ) → a ≤ k → k < a + n → f k ≡ g k) → map f (range_with_len a n) ≡ map g (range_with_len a n)
map-range_from-same f g a zero same = refl
map-range_from-same f g a (suc n) same =
    let rest = map-range_from-same f g (a + 1) n (λ k low high. same k (omega arith) (omega arith)) in
    let here = same a (omega arith) (omega arith) in
    cc

pub map-range-same : {X : Type 0} (f g : ℕ → X) (n : ℕ) → ((k : ℕ) → k < n → f k ≡ g k) → map f (range_with_len 0 n) ≡ map g (range_with_len 0 n)
map-range-same f g n same = map-range_from-same f g 0 n (λ k low high. same k (omega arith))

-- a value that counts at one place counts once
pub placed_past : (v p n : ℕ) → n ≤ p → sum_by (λ u. if p == u then v else 0) (range_with_len 0 n) ≡ 0
placed_past v p zero past = refl
placed_past v p (suc n) past =
    let miss = cond-false (p == n) v 0 (ne_eqb p n (omega arith)) in
    omega (arith, sum_by-range-suc (λ u. if p == u then v else 0) n, placed_past v p n (omega arith), miss)

pub placed_once : (v p n : ℕ) → p < n → sum_by (λ u. if p == u then v else 0) (range_with_len 0 n) ≡ v
placed_once v p zero within = absurd (omega arith)
placed_once v p (suc n) within =
    ⊎_elim
    (λ (e : p ≡ n).
    let hit = cond-true (p == n) v 0 (eq-eqb p n e) in
    omega (arith, sum_by-range-suc (λ u. if p == u then v else 0) n, placed_past v p n (omega arith), hit))
    (λ (ne : p ≡ n → ⊥).
    let miss = cond-false (p == n) v 0 (ne_eqb p n ne) in
    let before : p < n = omega arith in
    omega (arith, sum_by-range-suc (λ u. if p == u then v else 0) n, placed_once v p n before, miss))
    (cases_eq p n)

pub sum_by-add : (f g : ℕ → ℕ) (xs : List ℕ) → sum_by (λ x. f x + g x) xs ≡ sum_by f xs + sum_by g xs
sum_by-add f g [] = refl
sum_by-add f g (x ∷ xs) =
    omega (arith, sum_by-cons (λ y. f y + g y) x xs, sum_by-add f g xs, sum_by-cons f x xs, sum_by-cons g x xs)

pub sum_by-none : (xs : List ℕ) → sum_by (λ (x : ℕ). 0) xs ≡ 0
sum_by-none [] = refl
sum_by-none (x ∷ xs) = omega (arith, sum_by-cons (λ (y : ℕ). 0) x xs, sum_by-none xs)

pub sum_by-ext : (f g : ℕ → ℕ) (xs : List ℕ) → ((x : ℕ) → f x ≡ g x) → sum_by f xs ≡ sum_by g xs
sum_by-ext f g [] same = refl
sum_by-ext f g (x ∷ xs) same = omega (arith, sum_by-cons f x xs, sum_by-cons g x xs, sum_by-ext f g xs same, same x)

-- values that are each moved to a place below n: the places hold together what there was
moved_from : (value place : ℕ → ℕ) (n a m : ℕ) → a + m ≤ n → ((k : ℕ) → k < n → place k < n)
    → sum_by (λ u. sum_by (λ k. if place k == u then value k else 0) (range_with_len a m)) (range_with_len 0 n) ≡ sum_by value (range_with_len a m)
moved_from value place n a zero within below = sum_by-none (range_with_len 0 n)
moved_from value place n a (suc m) within below =
    let one = placed_once (value a) (place a) n (below a (omega arith)) in
    let rest = moved_from value place n (a + 1) m (omega arith) below in
    let split = sum_by-ext (λ u. sum_by (λ k. if place k == u then value k else 0) (range_with_len a (suc m)))
    (λ u. (if place a == u then value a else 0) + sum_by (λ k. if place k == u then value k else 0) (range_with_len (a + 1) m))
    (range_with_len 0 n)
    (λ u. sum_by-cons (λ k. if place k == u then value k else 0) a (range_with_len (a + 1) m)) in
    let both = sum_by-add (λ u. if place a == u then value a else 0)
    (λ u. sum_by (λ k. if place k == u then value k else 0) (range_with_len (a + 1) m)) (range_with_len 0 n) in
    omega (arith, one, rest, split, both, sum_by-cons value a (range_with_len (a + 1) m))

pub moved_sum : (value place : ℕ → ℕ) (n : ℕ) → ((k : ℕ) → k < n → place k < n)
    → sum_by (λ u. sum_by (λ k. if place k == u then value k else 0) (range_with_len 0 n)) (range_with_len 0 n) ≡ sum_by value (range_with_len 0 n)
moved_sum value place n below = moved_from value place n 0 n (omega arith) below

-- the same at n + 1, as a loop counts
pub sum_drop_take-more : (row : List ℕ) (t n : ℕ) → sum (take (n + 1) (drop t row)) ≡ sum (take n (drop t row)) + slice_index row (t + n)
sum_drop_take-more row t n = ap (λ (m : ℕ). sum (take m (drop t row))) (add-one n) ∙ sum_drop_take-suc row t n

pub sum_by-range-more : (f : ℕ → ℕ) (n : ℕ) → sum_by f (range_with_len 0 (n + 1)) ≡ sum_by f (range_with_len 0 n) + f n
sum_by-range-more f n = ap (λ (m : ℕ). sum_by f (range_with_len 0 m)) (add-one n) ∙ sum_by-range-suc f n

pub sum_by-range-take : (row : List ℕ) (n : ℕ) → sum_by (λ t. slice_index row t) (range_with_len 0 n) ≡ sum (take n row)
sum_by-range-take row zero = refl
sum_by-range-take row (suc n) = omega (arith, sum_by-range-suc (λ t. slice_index row t) n, sum_by-range-take row n, sum_take-suc row n)

pub sum_drop_take-le : (row : List ℕ) (t n : ℕ) → sum (take n (drop t row)) ≤ sum row
sum_drop_take-le row t n =
    omega (arith, sum_by-take-le (λ (x : ℕ). x) (drop t row) n, sum_by-take-drop (λ (x : ℕ). x) row t)
