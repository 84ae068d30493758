-- The network: from whom one of its pairs takes, and what every edge says.
use Rattle.std.specs.Prelude.{ℕ, ◌<◌, ◌≤◌, List, length}
use Rattle.mrp_grouping.specs.Groups.{group, sorted_by}
use Rattle.mrp_qty.specs.declared.limits.TheConstants.{MOST_PER}
use Rattle.mrp_master_data.specs.Table.{Table}
use Rattle.mrp_net.specs.declared.edge.Edge.{Edge}
use Rattle.mrp_net.specs.Edges.{edges}

-- the edges from a pair, in table order of the pairs that it takes from
abbrev pub suppliers : Table → ℕ → List Edge
suppliers N y = sorted_by (λ e. e.pair.0) (length N.pairs) (group (λ e. e.demander.0) y (edges N))

-- an edge joins pairs of the table, with a factor and shares in range
pub record IsEdge (N : Table) (e : Edge) : Type 0 where
  pub demander : e.demander.0 < length N.pairs
  pub pair : e.pair.0 < length N.pairs
  pub some : 1 ≤ e.per
  pub few : e.per ≤ MOST_PER
  pub rises : e.low < e.high
  pub ends : e.high ≤ 1000
