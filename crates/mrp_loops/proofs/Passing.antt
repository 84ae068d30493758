-- The loop check: how far one pass of it has come, over the edges of a pair that is taken
-- away, and over the pairs at first.
use Rattle.std.specs.Prelude.{◌≡◌, ℕ, ◌<◌, ◌≤◌, ◌==◌, ◌++◌, ◌∷◌, [], List, length, slice_index, slice_index_or, All}
use Rattle.mrp_master_data.specs.Table.{Table}
use Rattle.mrp_master_data.specs.declared.numbers.PairNo.{PairNo}
use Rattle.mrp_net.specs.declared.edge.Edge.{Edge}
use Rattle.mrp_net.specs.Edges.{demanders}
use Rattle.mrp_loops.specs.Taking.{is_in, HasCounts, IsAbove}

-- the pair y is being taken away: of its edges those of `passed` are passed, and those of `rest` aren't
pub record IsPassing (N : Table) (done : List PairNo) (y : PairNo) (code : ℕ)
    (passed rest : List Edge) (queue : List PairNo) (left codes : List ℕ) : Type 0 where
  pub counted : HasCounts N (done ++ y ∷ []) rest queue left codes
  pub front : (others : List PairNo) × (queue ≡ (done ++ y ∷ []) ++ others)
  pub above : IsAbove N done codes
  pub raised : All (λ e. code ≤ slice_index codes e.pair.0) passed

-- counts and queue of the pairs before x, where none is taken away
pub record IsBegun (N : Table) (x : ℕ) (queue : List PairNo) (left : List ℕ) : Type 0 where
  pub size : length left ≡ x
  pub counts : (k : ℕ) → k < x → slice_index left k ≡ length (demanders N k)
  pub queued : (k : ℕ) → k < x → is_in queue k ≡ (slice_index left k == 0)
  pub pairs : All (λ z. z.0 < x) queue
  pub once : (j k : ℕ) (d : PairNo) → j < k → k < length queue → (slice_index_or queue j d).0 ≡ (slice_index_or queue k d).0 → ⊥
