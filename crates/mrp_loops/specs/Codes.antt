-- Low-level codes of a network, and the loop that is answered.
use Rattle.std.specs.Prelude.{◌≡◌, ◌≢◌, ℕ, zero, suc, ◌≤◌, List, length, slice_index, All}
use Rattle.std.specs.List.{AllPairs}
use Rattle.mrp_master_data.specs.Table.{Table, IsPair}
use Rattle.mrp_loops.specs.Loop.{HasEdge, first_or, Leads, IsLoop}

-- each pair of the list takes from the next, and the last from the one after the list
abbrev pub LeadsTo : Table → List ℕ → ℕ → Type 0
LeadsTo N pairs after = Leads (HasEdge N) pairs after

-- a loop as it is answered: no pair stands in it twice, and it begins with its pair that is first in the table
pub record IsLoopFound (N : Table) (pairs : List ℕ) : Type 0 where
  pub loop : IsLoop N pairs
  pub once : AllPairs (λ x y. x ≢ y) pairs
  pub first : All (λ x. first_or pairs 0 ≤ x) pairs

-- a chain of so many edges ends in x
abbrev pub HasChain : Table → ℕ → ℕ → Type 0
HasChain N x zero = Unit {0}
HasChain N x (suc n) = (y : ℕ) × HasEdge N y x × HasChain N y n

-- the low-level code of a pair: the length of the longest chain of edges that ends in it
pub record IsCode (N : Table) (x : ℕ) (code : ℕ) : Type 0 where
  pub chain : HasChain N x code
  pub longest : (n : ℕ) → HasChain N x n → n ≤ code

-- the code of each pair
pub record AreCodes (N : Table) (codes : List ℕ) : Type 0 where
  pub size : length codes ≡ length N.pairs
  pub code : (x : ℕ) → IsPair N x → IsCode N x (slice_index codes x)
