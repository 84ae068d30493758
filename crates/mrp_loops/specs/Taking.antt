-- The loop check: how far it has come, by the pairs taken away, and what is known of those that are left.
use Rattle.std.specs.Prelude.{◌≡◌, ℕ, ◌+◌, ◌<◌, ◌≤◌, ◌==◌, [], Bool, true, not, List, length, count_by, slice_index}
use Rattle.std.specs.Prelude.{slice_index_or, All}
use Rattle.std.specs.List.{list_any}
use Rattle.mrp_master_data.specs.Table.{Table, IsTable, IsPair}
use Rattle.mrp_master_data.specs.declared.numbers.PairNo.{PairNo}
use Rattle.mrp_net.specs.declared.edge.Edge.{Edge}
use Rattle.mrp_net.specs.Edges.{demanders}
use Rattle.mrp_loops.specs.Loop.{HasEdge}
use Rattle.mrp_loops.specs.Codes.{HasChain}

-- whether a pair is in the list
abbrev pub is_in : List PairNo → ℕ → Bool
is_in pairs x = list_any (λ z. z.0 == x) pairs

-- how many edges to x come from pairs that aren't in the list
unfoldable pub waiting_edges : Table → List PairNo → ℕ → ℕ
waiting_edges N done x = count_by (λ e. not (is_in done e.demander.0)) (demanders N x)

-- how many of the edges go to x
unfoldable pub edge_count : List Edge → ℕ → ℕ
edge_count es x = count_by (λ e. e.pair.0 == x) es

-- counts, codes and queue, where the pairs of `done` are taken away but for the edges of `rest`
pub record HasCounts (N : Table) (done : List PairNo) (rest : List Edge) (queue : List PairNo)
    (left codes : List ℕ) : Type 0 where
  pub table : IsTable N
  pub left_size : length left ≡ length N.pairs
  pub codes_size : length codes ≡ length N.pairs
  pub counts : (x : ℕ) → IsPair N x → slice_index left x ≡ waiting_edges N done x + edge_count rest x
  pub queued : (x : ℕ) → IsPair N x → is_in queue x ≡ (slice_index left x == 0)
  pub pairs : All (λ z. IsPair N z.0) queue
  pub once : (j k : ℕ) (d : PairNo) → j < k → k < length queue
      → (slice_index_or queue j d).0 ≡ (slice_index_or queue k d).0 → ⊥
  pub chains : (x : ℕ) → IsPair N x → HasChain N x (slice_index codes x)
  pub short : (x : ℕ) → IsPair N x → slice_index codes x ≤ length done

-- every chain that ends in a pair of `done` is shorter than the code of each pair that it takes from
pub record IsAbove (N : Table) (done : List PairNo) (codes : List ℕ) : Type 0 where
  pub above : (y x m : ℕ) → is_in done y ≡ true → IsPair N x → HasEdge N y x → HasChain N y m → m < slice_index codes x

-- the pairs of `done` are taken away
pub record IsTaken (N : Table) (done queue : List PairNo) (left codes : List ℕ) : Type 0 where
  pub counted : HasCounts N done [] queue left codes
  pub above : IsAbove N done codes
