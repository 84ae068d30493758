-- The plan of the whole network: pegging in it, which requirements a gross requirement consists of.
use Rattle.std.specs.Prelude.{◌<◌, ◌≤◌, length, Bool, ℕ, ◌==◌, if◌then◌else◌, List, ◌∷◌, map, filter, not, slice_index}
use Rattle.mrp_qty.specs.declared.quantity.TheConstants.{MOST}
use Rattle.mrp_netting.specs.PlanRows.{PlanRows}
use Rattle.mrp_master_data.specs.Table.{Table}
use Rattle.mrp_net.specs.Edges.{demanders, edge_need, edge_usage, part}
use Rattle.mrp_net.specs.Suppliers.{IsEdge}
use Rattle.mrp_net.specs.Sums.{demand, pair_at}
use Rattle.mrp_net.specs.Plan.{rows_at}
use Rattle.mrp_net.specs.declared.edge.Edge.{Edge}
use Rattle.mrp_plan.specs.declared.terms.PegTerm.{PegTerm}
use Rattle.mrp_plan.specs.declared.terms.PegSource.{PegSource}
use Rattle.mrp_plan.specs.declared.terms.PegSource.TheVariants.{Demand, Bill, Plant}

-- the demand rows of a pair in a period, as one term
abbrev pub demand_term : Table → ℕ → ℕ → PegTerm
demand_term N x t =
    record { source = Demand; pair = record { 0 = x }; release = demand N x t; per = 1; base = 1; quantity = demand N x t }

-- a component is asked for at its own plant, a source by another plant
abbrev pub source_of : Table → Edge → PegSource
source_of N e = if (pair_at N e.demander.0).plant.0 == (pair_at N e.pair.0).plant.0 then Bill else Plant

-- what an edge asks in a period: the part of its demander's release, and by the usage in force so many pieces for so many
-- of it, rounded up
abbrev pub edge_term : Table → List PlanRows → ℕ → Edge → PegTerm
edge_term N table t e =
    let release = slice_index (rows_at table e.demander.0).release t in
    record {
      source = source_of N e;
      pair = e.demander;
      release = part e release;
      per = (edge_usage N e t).per;
      base = (edge_usage N e t).base;
      quantity = edge_need N e t release;
    }

-- something is asked
abbrev pub is_asked : PegTerm → Bool
is_asked p = not (p.quantity == 0)

-- the terms that aren't zero: the demand rows first, then the demanders in table order
abbrev pub peg_terms : Table → List PlanRows → ℕ → ℕ → List PegTerm
peg_terms N table x t = filter is_asked (demand_term N x t ∷ map (edge_term N table t) (demanders N x))

-- the edge's demander has a release in the period, and what it asks is a quantity
pub record IsPeggable (N : Table) (table : List PlanRows) (t : ℕ) (e : Edge) : Type 0 where
  pub edge : IsEdge N e
  pub period : t < length (rows_at table e.demander.0).release
  pub within : edge_need N e t (slice_index (rows_at table e.demander.0).release t) ≤ MOST
