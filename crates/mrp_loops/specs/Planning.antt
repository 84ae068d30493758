-- Low-level codes and needs of a network, and the orders in which its pairs can be planned.
use Rattle.std.specs.Prelude.{ℕ, ◌<◌, List, length, take, slice_index, All, Contains, IsPermutation}
use Rattle.std.specs.List.{range_with_len}
use Rattle.mrp_master_data.specs.Table.{Table}
use Rattle.mrp_net.specs.Edges.{demanders}

-- a network with the low-level codes and the needs of its pairs
pub record Sized : Type 0 where
  pub network : Table
  pub codes : List ℕ
  pub needs : List ℕ

-- an order of all pairs, each once, in which a pair comes after all of its demanders
pub record IsPlanningOrder (N : Table) (order : List ℕ) : Type 0 where
  pub all : IsPermutation (range_with_len 0 (length N.pairs)) order
  pub demanders_first : (k : ℕ) → k < length order
      → All (λ e. Contains (take k order) e.demander.0) (demanders N (slice_index order k))
