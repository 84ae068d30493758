-- Loops of a network, and its low-level codes.
use Rattle.std.specs.Prelude.{◌≡◌, ℕ, List, [], ◌∷◌, Contains}
use Rattle.mrp_master_data.specs.Table.{Table}
use Rattle.mrp_net.specs.Edges.{edges}
use Rattle.mrp_net.specs.declared.edge.Edge.{Edge}

-- y takes from x
abbrev pub HasEdge : Table → ℕ → ℕ → Type 0
HasEdge N y x = (e : Edge) × Contains (edges N) e × (e.demander.0 ≡ y) × (e.pair.0 ≡ x)

-- the first of a list, or what comes after it
abbrev pub first_or : List ℕ → ℕ → ℕ
first_or [] after = after
first_or (x ∷ xs) after = x

-- each of the list stands in a relation to the next, and the last to the one after the list
abbrev pub Leads : (ℕ → ℕ → Type 0) → List ℕ → ℕ → Type 0
Leads R [] after = Unit {0}
Leads R (x ∷ xs) after = R x (first_or xs after) × Leads R xs after

-- the list isn't empty, each of it stands so to the next, and the last to the first
abbrev pub IsRound : (ℕ → ℕ → Type 0) → List ℕ → Type 0
IsRound R [] = ⊥
IsRound R (x ∷ xs) = Leads R (x ∷ xs) x

-- a list of pairs that isn't empty, each takes from the next, and the last from the first
abbrev pub IsLoop : Table → List ℕ → Type 0
IsLoop N pairs = IsRound (HasEdge N) pairs

-- no list of pairs is a loop
abbrev pub IsLoopFree : Table → Type 0
IsLoopFree N = (pairs : List ℕ) → ¬ IsLoop N pairs
