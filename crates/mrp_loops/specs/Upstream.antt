-- The loop check: its walk upstream, which decides which of several loops is answered.
use Rattle.std.specs.Prelude.{ℕ, zero, suc, ◌≤◌, List, All}
use Rattle.mrp_master_data.specs.Table.{Table}
use Rattle.mrp_loops.specs.Loop.{HasEdge, IsRound}
use Rattle.mrp_loops.specs.Codes.{HasChain, IsLoopFound}

-- x has the property, and no pair before it in the table has
abbrev pub IsFirst : (ℕ → Type 0) → ℕ → Type 0
IsFirst P x = P x × ((y : ℕ) → P y → x ≤ y)

-- a pair is left when pairs without a demander left are taken away as long as there is one: chains of
-- every length end in it
abbrev pub IsLeft : Table → ℕ → Type 0
IsLeft N x = (n : ℕ) → HasChain N x n

-- a demander of x that is left
abbrev pub IsDemanderLeft : Table → ℕ → ℕ → Type 0
IsDemanderLeft N x y = HasEdge N y x × IsLeft N y

-- from x the walk goes to y, the first in the table of the demanders of x that are left
abbrev pub GoesTo : Table → ℕ → ℕ → Type 0
GoesTo N x y = IsFirst (IsDemanderLeft N x) y

-- the same, said of y: the walk comes to it from x
abbrev pub ComesFrom : Table → ℕ → ℕ → Type 0
ComesFrom N y x = GoesTo N x y

-- where the walk is after so many steps: it begins with the first pair in the table that is left
abbrev pub IsWalkedTo : Table → ℕ → ℕ → Type 0
IsWalkedTo N zero x = IsFirst (IsLeft N) x
IsWalkedTo N (suc n) x = (y : ℕ) × IsWalkedTo N n y × GoesTo N y x

-- the walk comes to x
abbrev pub IsMet : Table → ℕ → Type 0
IsMet N x = (n : ℕ) × IsWalkedTo N n x

-- the loop of the walk: it comes to each pair of the list, to each from the next, and to the last from the first
pub record IsWalked (N : Table) (pairs : List ℕ) : Type 0 where
  pub met : All (IsMet N) pairs
  pub round : IsRound (ComesFrom N) pairs

-- the loop that is answered
pub record IsLoopAnswered (N : Table) (pairs : List ℕ) : Type 0 where
  pub found : IsLoopFound N pairs
  pub walked : IsWalked N pairs
