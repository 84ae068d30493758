-- The network: laws of what one of its pairs takes. The parts of its release, its sources and its components.
use Rattle.std.specs.Prelude.{◌≡◌, ℕ, ◌≤◌, ◌==◌}
use Rattle.std.specs.Prelude.{[], length, map, filter, sum_by}
use Rattle.mrp_master_data.specs.declared.rows.Supply.TheVariants.{From, Buy}
use Rattle.mrp_master_data.specs.Table.{Table, IsTable, IsPair, pair_no, sources_of_pair}
use Rattle.mrp_net.specs.declared.edge.Edge.{Edge}
use Rattle.mrp_net.specs.Edges.{part, edge_need, bill_edge, source_edge}
use Rattle.mrp_net.specs.Suppliers.{suppliers, IsEdge}
use Rattle.mrp_grouping.specs.Groups.{sorted_by}
use Rattle.mrp_net.specs.Sums.{pair_at}

-- the parts of a release over the sources of a pair that is taken from plants are the release
abbrev pub PartsAreWhole : Type 0
PartsAreWhole =
    (N : Table) → IsTable N → (x : ℕ) → IsPair N x → (pair_at N x).supply ≡ From → (release : ℕ)
    → sum_by (λ s. part (source_edge N s) release) (sources_of_pair N x) ≡ release

-- what a release of such a pair asks of its suppliers is the release, in every period
abbrev pub NeedsAreWhole : Type 0
NeedsAreWhole =
    (N : Table) → IsTable N → (x : ℕ) → IsPair N x → (pair_at N x).supply ≡ From → (t release : ℕ)
    → sum_by (λ e. edge_need N e t release) (suppliers N x) ≡ release

-- no part of a release is more than the release
abbrev pub PartsAreWithin : Type 0
PartsAreWithin = (N : Table) (e : Edge) → IsEdge N e → (release : ℕ) → part e release ≤ release

-- any other pair has no sources
abbrev pub OthersHaveNoSources : Type 0
OthersHaveNoSources =
    (N : Table) → IsTable N → (x : ℕ) → IsPair N x → ¬ ((pair_at N x).supply ≡ From) → sources_of_pair N x ≡ []

-- and its edges are those of its components
abbrev pub OthersHaveComponents : Type 0
OthersHaveComponents =
    (N : Table) → IsTable N → (x : ℕ) → IsPair N x → ¬ ((pair_at N x).supply ≡ From)
    → suppliers N x ≡ sorted_by (λ e. e.pair.0) (length N.pairs) (map bill_edge (filter (λ b. b.parent.0 == x) N.bills))

-- a bought pair has no edges
abbrev pub BoughtHaveNoEdges : Type 0
BoughtHaveNoEdges = (N : Table) → IsTable N → (x : ℕ) → IsPair N x → (pair_at N x).supply ≡ Buy → suppliers N x ≡ []

-- the pair of the plant and the item of a pair is that pair
abbrev pub PairsAreFound : Type 0
PairsAreFound = (N : Table) → IsTable N → (x : ℕ) → IsPair N x
    → pair_no N (pair_at N x).plant.0 (pair_at N x).item.0 ≡ x
