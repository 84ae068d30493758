-- The agent: its rows of the pair at a place, which are its part of the amounts by pairs and
-- periods, its edges and its usage rows.
use Rattle.std.specs.Prelude.{ℕ, ◌+◌, ◌*◌, ◌==◌, List, [], map, filter, slice_index_or, slice_range}
use Rattle.mrp_plant_view.specs.View.{PlantRows}
use Rattle.mrp_agent.specs.declared.edges.ParentEdge.{ParentEdge}
use Rattle.mrp_agent.specs.Asking.{Uses}
use Rattle.mrp_agent.specs.Kept.{parent_edge}

abbrev pub part_at : ℕ → ℕ → List ℕ → List ℕ
part_at periods place amounts = slice_range amounts (place * periods) (place * periods + periods)

-- the edges from the pair to its parents
abbrev pub edges_at : PlantRows → ℕ → List ParentEdge
edges_at V place = filter (λ e. e.component == place) (map (parent_edge V) V.edges)

-- what says how many pieces of it go into them
abbrev pub uses_at : PlantRows → ℕ → Uses
uses_at V place = record { rows = slice_index_or V.usages place []; pairs = V.pairs }
