-- Grouping by a key, as the pair: amounts of rows added up by it, and by a second key beside it, as the period.
use Rattle.std.specs.Prelude.{◌≡◌, ℕ, ◌+◌, ◌-◌, ◌*◌, ◌^◌, ◌<◌, ◌==◌, ◌&&◌, if◌then◌else◌, min, List, length, sum_by}
use Rattle.std.specs.Prelude.{slice_index}

-- the rows of a key, and those of a key with a second one
abbrev pub sum_of : {X : Type 0} → (X → ℕ) → (X → ℕ) → ℕ → List X → ℕ
sum_of key amount k rows = sum_by (λ r. if key r == k then amount r else 0) rows

abbrev pub sum_in : {X : Type 0} → (X → ℕ) → (X → ℕ) → (X → ℕ) → ℕ → ℕ → List X → ℕ
sum_in key second amount k t rows = sum_by (λ r. if (key r == k) && (second r == t) then amount r else 0) rows

-- `after` has for each key the amounts of its rows added to what was there; a sum past 2^64 - 1 stays there
abbrev pub AddsTotals : {X : Type 0} → (X → ℕ) → (X → ℕ) → List X → List ℕ → List ℕ → Type 0
AddsTotals key amount rows before after =
    (k : ℕ) → k < length before → slice_index after k
    ≡ min (slice_index before k + sum_of key amount k rows) (2 ^ 64 - 1)

-- the same for each key and second key below the width, key by key
abbrev pub AddsAmounts : {X : Type 0} → (X → ℕ) → (X → ℕ) → (X → ℕ) → ℕ → List X → List ℕ → List ℕ → Type 0
AddsAmounts key second amount width rows before after =
    (k t : ℕ) → t < width → k * width + t < length before →
    slice_index after (k * width + t) ≡ min (slice_index before (k * width + t) + sum_in key second amount k t rows)
    (2 ^ 64 - 1)
