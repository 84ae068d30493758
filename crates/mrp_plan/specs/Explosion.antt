-- The plan of the whole network: its explosion as it goes on, which is what the releases
-- of a pair's demanders ask of it.
use Rattle.std.specs.Prelude.{◌≡◌, ℕ, ◌*◌, ◌<◌, List, length, sum, sum_by}
use Rattle.mrp_netting.specs.PlanRows.{PlanRows}
use Rattle.mrp_master_data.specs.declared.rows.UsageRow.{UsageRow}
use Rattle.mrp_master_data.specs.Table.{Table}
use Rattle.mrp_net.specs.Edges.{edge_most, part}
use Rattle.mrp_net.specs.Plan.{rows_at}
use Rattle.mrp_net.specs.Suppliers.{IsEdge}
use Rattle.mrp_net.specs.Usages.{in_force, pieces_for, whole}
use Rattle.mrp_net.specs.declared.edge.Edge.{Edge}

-- what an edge with such usage rows asks for a release of a period
abbrev pub need_by : List UsageRow → Edge → ℕ → ℕ → ℕ
need_by rows e t release = pieces_for (in_force t (whole e.per) rows) (part e release)

-- what edges ask at most in all periods: for each piece of whole releases the most for one parent
abbrev pub asked_total : Table → List PlanRows → List Edge → ℕ
asked_total N table edges = sum_by (λ e. edge_most N e * sum (rows_at table e.demander.0).release) edges

-- the edge is one of the table, and its demander has a row of so many releases
pub record CanExplode (N : Table) (table : List PlanRows) (periods : ℕ) (e : Edge) : Type 0 where
  pub edge : IsEdge N e
  pub demander : e.demander.0 < length table
  pub release : length (rows_at table e.demander.0).release ≡ periods

-- the edge is one of the table, and its demander has a release in the period
pub record CanAsk (N : Table) (table : List PlanRows) (t : ℕ) (e : Edge) : Type 0 where
  pub edge : IsEdge N e
  pub demander : e.demander.0 < length table
  pub period : t < length (rows_at table e.demander.0).release
