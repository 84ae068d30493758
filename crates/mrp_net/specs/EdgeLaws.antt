-- The network: laws of its edges. Which join two pairs, and which of them stay within a plant.
use Rattle.std.specs.Prelude.{◌≡◌, ◌≢◌, ℕ, ◌==◌, not, Bool, true}
use Rattle.std.specs.Prelude.{map, filter, All}
use Rattle.std.specs.List.{AllPairs}
use Rattle.mrp_master_data.specs.Table.{Table, IsTable, IsPair, source_pair}
use Rattle.mrp_net.specs.declared.edge.Edge.{Edge}
use Rattle.mrp_net.specs.Edges.{edge_need, edge_usage, bill_edge, source_edge, edges, demanders}
use Rattle.mrp_net.specs.Lanes.{item_of_source}
use Rattle.mrp_net.specs.Sums.{pair_at}
use Rattle.mrp_net.specs.Usages.{pieces_for}

-- no two edges join the same two pairs
abbrev pub OneEdgeJoinsTwoPairs : Type 0
OneEdgeJoinsTwoPairs =
    (N : Table) → IsTable N → AllPairs (λ e f. ¬ ((e.demander.0 ≡ f.demander.0) × (e.pair.0 ≡ f.pair.0))) (edges N)

-- no pair stands twice among the demanders of a pair
abbrev pub DemandersStandOnce : Type 0
DemandersStandOnce = (N : Table) → IsTable N → (x : ℕ) → AllPairs (λ e f. e.demander.0 ≢ f.demander.0) (demanders N x)

-- an edge joins pairs of one plant
abbrev pub is_local : Table → Edge → Bool
is_local N e = (pair_at N e.demander.0).plant.0 == (pair_at N e.pair.0).plant.0

-- the pair behind a source has the source's plant, and the item of the pair that takes from it
abbrev pub SourcePairsAreThere : Type 0
SourcePairsAreThere =
    (N : Table) → IsTable N
    → All (λ s. IsPair N (source_pair N s) × ((pair_at N (source_pair N s)).plant ≡ s.plant)
    × ((pair_at N (source_pair N s)).item ≡ item_of_source N s)) N.sources

-- the edges within plants are those of components
abbrev pub LocalEdgesAreBills : Type 0
LocalEdgesAreBills = (N : Table) → IsTable N → filter (is_local N) (edges N) ≡ map bill_edge N.bills

-- and those between plants are those of sources
abbrev pub CrossingEdgesAreSources : Type 0
CrossingEdgesAreSources = (N : Table) → IsTable N
    → filter (λ e. not (is_local N e)) (edges N) ≡ map (source_edge N) N.sources

-- an edge within a plant asks for the whole release by the usage in force, for a pair of the same plant
pub record IsLocalEdge (N : Table) (e : Edge) : Type 0 where
  pub low : e.low ≡ 0
  pub high : e.high ≡ 1000
  pub demander : IsPair N e.demander.0
  pub plant : (pair_at N e.demander.0).plant ≡ (pair_at N e.pair.0).plant
  pub need : (t release : ℕ) → edge_need N e t release ≡ pieces_for (edge_usage N e t) release

abbrev pub LocalEdgesAreWhole : Type 0
LocalEdgesAreWhole = (N : Table) → IsTable N → All (λ e. is_local N e ≡ true → IsLocalEdge N e) (edges N)

-- and so among the demanders of a pair
abbrev pub LocalDemandersAreWhole : Type 0
LocalDemandersAreWhole = (N : Table) → IsTable N → (x : ℕ)
    → All (λ e. is_local N e ≡ true → IsLocalEdge N e) (demanders N x)
