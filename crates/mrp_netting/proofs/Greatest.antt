-- Netting one pair: the greatest of its needs of 1 to n periods.
use Rattle.std.specs.Prelude.{◌≡◌, ℕ, ◌+◌, ◌≤◌, ◌<◌, max, zero, suc}
use Rattle.std.proofs.Common.{arith, refl, ap, ⊎_elim, add-zero}
use Rattle.std.proofs.lemmas.Bool.{cases_lt}
use Rattle.mrp_netting.specs.PlanningData.{greatest}

pub greatest-zero : (needs : ℕ → ℕ) → greatest needs zero ≡ 0
unfolding greatest
greatest-zero needs = refl

pub greatest-suc : (needs : ℕ → ℕ) (n : ℕ) → greatest needs (suc n) ≡ max (greatest needs n) (needs (suc n))
unfolding greatest
greatest-suc needs n = refl

-- it is below none of them
pub greatest-covers : (needs : ℕ → ℕ) (n most : ℕ) → 1 ≤ n → n ≤ most → needs n ≤ greatest needs most
greatest-covers needs n zero some within = absurd (omega arith)
greatest-covers needs n (suc most) some within =
    ⊎_elim
    (λ (fewer : n < suc most). omega (arith, greatest-suc needs most, greatest-covers needs n most some (omega arith)))
    (λ (all : suc most ≤ n). let same : n ≡ suc most = omega arith in omega (arith, greatest-suc needs most, ap needs same))
    (cases_lt n (suc most))

-- and below what none of them is above
pub greatest-le : (needs : ℕ → ℕ) (n bound : ℕ) → ((k : ℕ) → needs k ≤ bound) → greatest needs n ≤ bound
greatest-le needs zero bound below = omega (arith, greatest-zero needs)
greatest-le needs (suc n) bound below =
    omega (arith, greatest-suc needs n, greatest-le needs n bound below, below (suc n))

-- needs that don't grow from m on
pub greatest-past : (needs : ℕ → ℕ) (m k : ℕ) → 1 ≤ m → ((n : ℕ) → m ≤ n → needs n ≤ needs m) → greatest needs (m + k) ≡ greatest needs m
greatest-past needs m zero some past = ap (greatest needs) (add-zero m)
greatest-past needs m (suc k) some past =
    let next : m + suc k ≡ suc (m + k) = omega arith in
    let same : greatest needs (m + suc k) ≡ greatest needs (suc (m + k)) = ap (greatest needs) next in
    omega (
      arith,
      same,
      greatest-suc needs (m + k),
      greatest-past needs m k some past,
      greatest-covers needs m m some (omega arith),
      past (suc (m + k)) (omega arith),
    )

-- the same at n + 1, as a loop counts
pub greatest-more : (needs : ℕ → ℕ) (n : ℕ) → greatest needs (n + 1) ≡ max (greatest needs n) (needs (n + 1))
greatest-more needs n =
    let next : n + 1 ≡ suc n = omega arith in
    let here = ap (greatest needs) next in
    let there = ap needs next in
    omega (arith, here, there, greatest-suc needs n)
