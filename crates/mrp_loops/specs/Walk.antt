-- The loop check: its walk upstream among pairs that can't be taken away.
use Rattle.std.specs.Prelude.{◌≡◌, ℕ, ◌<◌, List, map, reverse, length, slice_index, slice_index_or, Contains}
use Rattle.mrp_master_data.specs.Table.{Table, IsTable, IsPair}
use Rattle.mrp_master_data.specs.declared.numbers.PairNo.{PairNo}
use Rattle.mrp_net.specs.declared.edge.Edge.{Edge}
use Rattle.mrp_net.specs.Edges.{demanders}
use Rattle.mrp_loops.specs.Loop.{IsRound}
use Rattle.mrp_loops.specs.Upstream.{IsLeft}

-- each pair that is counted as left has a demander that is, and each pair that is left is counted so
pub record IsStuck (N : Table) (left : List ℕ) : Type 0 where
  pub table : IsTable N
  pub size : length left ≡ length N.pairs
  pub demander : (x : ℕ) → IsPair N x → 0 < slice_index left x
      → (e : Edge) × Contains (demanders N x) e × (0 < slice_index left e.demander.0)
  pub all : (x : ℕ) → IsLeft N x → 0 < slice_index left x

-- no two of the list are one pair
abbrev pub IsApart : List PairNo → Type 0
IsApart pairs = (j k : ℕ) (d : PairNo) → j < k → k < length pairs
    → (slice_index_or pairs j d).0 ≡ (slice_index_or pairs k d).0 → ⊥

-- the list read backwards goes round by the relation, and no pair stands in it twice
pub record IsRing (R : ℕ → ℕ → Type 0) (ring : List PairNo) : Type 0 where
  pub round : IsRound R (map (λ x. x.0) (reverse ring))
  pub apart : IsApart ring
