-- Loops and chains of a network: a list of pairs, each in a relation to the next.
use Rattle.std.specs.Prelude.{ℕ, List, [], ◌∷◌}
use Rattle.mrp_master_data.specs.declared.numbers.PairNo.{PairNo}

-- x stands so to the first of the list, and each of the list to the next
abbrev pub Climbs : (ℕ → ℕ → Type 0) → ℕ → List PairNo → Type 0
Climbs R x [] = Unit {0}
Climbs R x (y ∷ ys) = R x y.0 × Climbs R y.0 ys
