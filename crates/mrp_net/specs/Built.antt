-- The network as it is built: what its lists hold, which is its edges in groups, and its sums.
use Rattle.std.specs.Prelude.{◌≡◌, ℕ, ◌+◌, ◌-◌, ◌*◌, ◌^◌, ◌<◌, min, List, length, slice_index}
use Rattle.mrp_master_data.specs.Table.{Table, IsTable, IsPair, horizon}
use Rattle.mrp_net.specs.declared.edge.Edge.{Edge}
use Rattle.mrp_net.specs.declared.build.Edges.{Edges}
use Rattle.mrp_net.specs.declared.build.Amounts.{Amounts}
use Rattle.mrp_net.specs.declared.lanes.LaneLists.{LaneLists}
use Rattle.mrp_net.specs.declared.plants.PlantLists.{PlantLists}
use Rattle.mrp_net.specs.Edges.{edges}
use Rattle.mrp_net.specs.Incoming.{IsIncoming}
use Rattle.mrp_grouping.specs.Groups.{sorted_by}
use Rattle.mrp_grouping.specs.Starts.{IsGrouped}
use Rattle.mrp_net.specs.Plants.{ArePlantLists}
use Rattle.mrp_net.specs.Routes.{AreLaneLists}
use Rattle.mrp_net.specs.Sums.{demand, demand_total, received, supply}
use Rattle.mrp_master_data.specs.declared.rows.FirmRow.{FirmRow}
use Rattle.mrp_master_data.specs.declared.rows.PolicyRow.{PolicyRow}
use Rattle.mrp_master_data.specs.declared.rows.UsageRow.{UsageRow}

-- all edges in order of their demanders, and then in order of their pairs
abbrev pub by_demander : Table → List Edge
by_demander N = sorted_by (λ e. e.demander.0) (length N.pairs) (edges N)

abbrev pub by_pair : Table → List Edge
by_pair N = sorted_by (λ e. e.pair.0) (length N.pairs) (by_demander N)

-- the edges to each pair, and those from each pair: where each pair's begin is in `starts`
abbrev pub AreDemanders : Table → List Edge → List ℕ → Type 0
AreDemanders N rows starts = IsGrouped (λ e. e.pair.0) (length N.pairs) (by_demander N) rows starts

abbrev pub AreSuppliers : Table → List Edge → List ℕ → Type 0
AreSuppliers N rows starts = IsGrouped (λ e. e.demander.0) (length N.pairs) (by_pair N) rows starts

-- an amount of each pair
pub record AreTotals (N : Table) (amount : ℕ → ℕ) (totals : List ℕ) : Type 0 where
  pub size : length totals ≡ length N.pairs
  pub each : (x : ℕ) → IsPair N x → slice_index totals x ≡ amount x

-- an amount of each pair and period, pair by pair
pub record ArePeriods (N : Table) (amount : ℕ → ℕ → ℕ) (amounts : List ℕ) : Type 0 where
  pub size : length amounts ≡ length N.pairs * horizon N
  pub each : (x t : ℕ) → IsPair N x → t < horizon N → slice_index amounts (x * horizon N + t) ≡ amount x t

-- what a pair has without any order, or 2^64 - 1 where it is more
abbrev pub capped_supply : Table → ℕ → ℕ
capped_supply N x = min (supply N x) (2 ^ 64 - 1)

-- the edges by the pair that is taken from, and by the pair that takes
pub record AreEdges (N : Table) (e : Edges) : Type 0 where
  pub demanders : AreDemanders N e.demanders.rows.items e.demanders.starts.items
  pub suppliers : AreSuppliers N e.suppliers.rows.items e.suppliers.starts.items

-- the firm planned orders of each pair: where each pair's begin is in `starts`
abbrev pub AreFirms : Table → List FirmRow → List ℕ → Type 0
AreFirms N rows starts = IsGrouped (λ f. f.pair.0) (length N.pairs) N.firms rows starts

-- the policy of each pair that has one, kept the same way
abbrev pub ArePolicies : Table → List PolicyRow → List ℕ → Type 0
ArePolicies N rows starts = IsGrouped (λ p. p.pair.0) (length N.pairs) N.policies rows starts

-- all usage rows by rising periods, and then in order of their parents
abbrev pub usages_by_period : Table → List UsageRow
usages_by_period N = sorted_by (λ u. u.period) (horizon N) N.usages

abbrev pub usages_by_parent : Table → List UsageRow
usages_by_parent N = sorted_by (λ u. u.parent.0) (length N.pairs) (usages_by_period N)

-- the usage rows of each component, kept the same way
abbrev pub AreUsages : Table → List UsageRow → List ℕ → Type 0
AreUsages N rows starts = IsGrouped (λ u. u.component.0) (length N.pairs) (usages_by_parent N) rows starts

-- what the rows add up to, firm planned orders and policies by their pairs, and usage rows by their components
pub record AreAmounts (N : Table) (a : Amounts) : Type 0 where
  pub demanded : ArePeriods N (demand N) a.demand.items
  pub receipts : ArePeriods N (received N) a.received.items
  pub coming : IsIncoming N a.incoming
  pub total : AreTotals N (demand_total N) a.demand_totals.items
  pub supplied : AreTotals N (capped_supply N) a.supplies.items
  pub firms : AreFirms N a.firms.rows.items a.firms.starts.items
  pub policies : ArePolicies N a.policies.rows.items a.policies.starts.items
  pub usages : AreUsages N a.usages.rows.items a.usages.starts.items

-- the table, and what is built of it
pub record IsBuilt (N : Table) (e : Edges) (a : Amounts) (l : LaneLists) (p : PlantLists) : Type 0 where
  pub table : IsTable N
  pub edges : AreEdges N e
  pub amounts : AreAmounts N a
  pub lanes : AreLaneLists N l
  pub plants : ArePlantLists N p
