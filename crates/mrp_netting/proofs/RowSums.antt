-- Netting one pair: sums over the front of a row of its plan, and from a period on.
use Rattle.std.specs.Prelude.{◌≡◌, ℕ, ◌+◌, ◌-◌, ◌≤◌, List, sum, take, drop, length, slice_index, zero, suc}
use Rattle.std.proofs.Common.{arith, refl, sym, ap, ◌∙◌, add-zero, add-one, length-drop}
use Rattle.std.proofs.lemmas.List.{take_all}
use Rattle.mrp_qty.proofs.RangeLaws.{sum_take-suc, sum_drop_take-suc, sum_drop_take-one}

-- more periods have no less
sum_take-more : (row : List ℕ) (m k : ℕ) → sum (take m row) ≤ sum (take (m + k) row)
sum_take-more row m zero = let same = ap (λ (n : ℕ). sum (take n row)) (add-zero m) in omega (arith, same)
sum_take-more row m (suc k) =
    let next : m + suc k ≡ suc (m + k) = omega arith in
    let same = ap (λ (n : ℕ). sum (take n row)) next in
    omega (arith, same, sum_take-suc row (m + k), sum_take-more row m k)

pub sum_take-le : (row : List ℕ) (m n : ℕ) → m ≤ n → sum (take m row) ≤ sum (take n row)
sum_take-le row m n more =
    let there : m + (n - m) ≡ n = omega arith in
    let same = ap (λ (k : ℕ). sum (take k row)) there in
    omega (arith, same, sum_take-more row m (n - m))

pub sum_take-all : (row : List ℕ) (n : ℕ) → length row ≤ n → sum (take n row) ≡ sum row
sum_take-all row n long = ap sum (take_all n row long)

-- what is before t and in the n periods from t on
pub sum_take-split : (row : List ℕ) (t n m : ℕ) → m ≡ t + n → sum (take m row) ≡ sum (take t row) + sum (take n (drop t row))
sum_take-split row t zero m is =
    let same : m ≡ t = omega arith in
    let here = ap (λ (k : ℕ). sum (take k row)) same in
    omega (arith, here)
sum_take-split row t (suc n) m is =
    let same : m ≡ suc (t + n) = omega arith in
    let here = ap (λ (k : ℕ). sum (take k row)) same in
    omega (arith, here, sum_take-suc row (t + n), sum_take-split row t n (t + n) refl, sum_drop_take-suc row t n)

-- the first period, and those behind it
pub sum_from-first : (row : List ℕ) (t n m : ℕ) → m ≡ suc n → sum (take m (drop t row)) ≡ slice_index row t + sum (take n (drop (suc t) row))
sum_from-first row t zero m is =
    let same : m ≡ 1 = omega arith in
    let here = ap (λ (k : ℕ). sum (take k (drop t row))) same in
    omega (arith, here, sum_drop_take-one row t)
sum_from-first row t (suc n) m is =
    let same : m ≡ suc (suc n) = omega arith in
    let here = ap (λ (k : ℕ). sum (take k (drop t row))) same in
    let there : t + suc n ≡ suc t + n = omega arith in
    let at = ap (λ (k : ℕ). slice_index row k) there in
    omega (arith, here, at, sum_drop_take-suc row t (suc n), sum_from-first row t n (suc n) refl, sum_drop_take-suc row (suc t) n)

pub sum_take-most : (row : List ℕ) (t : ℕ) → sum (take t row) ≤ sum row
sum_take-most row t = omega (arith, sum_take-le row t (t + length row) (omega arith), sum_take-all row (t + length row) (omega arith))

-- one more period, as a loop counts
pub sum_take-next : (row : List ℕ) (t : ℕ) → sum (take (t + 1) row) ≡ sum (take t row) + slice_index row t
sum_take-next row t = let next = ap (λ (n : ℕ). sum (take n row)) (add-one t) in omega (arith, next, sum_take-suc row t)

-- behind the end of a row more periods have nothing
pub sum_from-past : (row : List ℕ) (t m n : ℕ) → length row ≤ t + m → m ≤ n → sum (take n (drop t row)) ≡ sum (take m (drop t row))
sum_from-past row t m n past more =
    let long = length-drop t row in
    ap sum (take_all n (drop t row) (omega (arith, long))) ∙ sym (ap sum (take_all m (drop t row) (omega (arith, long))))

-- no period has more than the whole row
pub slice_index-le : (row : List ℕ) (t : ℕ) → slice_index row t ≤ sum row
slice_index-le row t = omega (arith, sum_take-suc row t, sum_take-most row (suc t))
