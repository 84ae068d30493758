-- The network: its edges, which say who takes from whom, read off its rows.
use Rattle.std.specs.Prelude.{ℕ, List, ◌++◌, length, map}
use Rattle.mrp_grouping.specs.Groups.{group, sorted_by}
use Rattle.mrp_master_data.specs.declared.rows.BillRow.{BillRow}
use Rattle.mrp_master_data.specs.declared.rows.SourceRow.{SourceRow}
use Rattle.mrp_master_data.specs.declared.rows.Usage.{Usage}
use Rattle.mrp_master_data.specs.declared.rows.UsageRow.{UsageRow}
use Rattle.mrp_master_data.specs.Table.{Table, source_pair}
use Rattle.mrp_net.specs.declared.edge.Edge.{Edge}
use Rattle.mrp_net.specs.Shares.{share_of}
use Rattle.mrp_net.specs.Usages.{in_force, most_per, pieces_for, usages_of, usages_to, whole}

-- a made parent takes each component, by its bill row so many in one, for its whole release
abbrev pub bill_edge : BillRow → Edge
bill_edge b = record { demander = b.parent; pair = b.component; per = b.per; low = 0; high = 1000 }

-- a pair takes its share of the release from the same item at the source's plant, one for one
abbrev pub source_edge : Table → SourceRow → Edge
source_edge N s =
    record { demander = s.pair; pair = record { 0 = source_pair N s }; per = 1; low = s.low; high = s.high }

-- all edges
abbrev pub edges : Table → List Edge
edges N = map bill_edge N.bills ++ map (source_edge N) N.sources

-- the edges to a pair, in table order of their demanders
abbrev pub demanders : Table → ℕ → List Edge
demanders N x = sorted_by (λ e. e.demander.0) (length N.pairs) (group (λ e. e.pair.0) x (edges N))

-- the edge's part of a release: its share, and of a component the whole
abbrev pub part : Edge → ℕ → ℕ
part e release = share_of e.low e.high release

-- the usage rows of an edge, by rising periods
abbrev pub edge_usages : Table → Edge → List UsageRow
edge_usages N e = usages_of (usages_to N e.pair.0) e.demander.0

-- how many pieces of the pair go into how many of the demander that are released in a period: what its last usage row by
-- then says, and before the first what the bill row says
abbrev pub edge_usage : Table → Edge → ℕ → Usage
edge_usage N e t = in_force t (whole e.per) (edge_usages N e)

-- what a release of a period asks of the edge's pair in it, rounded up
abbrev pub edge_need : Table → Edge → ℕ → ℕ → ℕ
edge_need N e t release = pieces_for (edge_usage N e t) (part e release)

-- the most for one piece that the bill row of an edge or a usage row says, in force or not
abbrev pub edge_most : Table → Edge → ℕ
edge_most N e = most_per e.per (edge_usages N e)
