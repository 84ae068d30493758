use Rattle.std.proofs.Common.{ℕ, ◌+◌, ◌<◌, ◌≤◌, List, length, map, slice_index, ◌∙◌, ap}
use Rattle.mrp_grouping.specs.Starts.{IsGrouped}
use Rattle.mrp_grouping.proofs.Sorting.{IsGrouped-within}
use Rattle.mrp_plant_view.specs.View.{PlantRows}
use Rattle.mrp_agent.specs.declared.edges.ParentEdge.{ParentEdge}
use Rattle.mrp_agent.specs.Kept.{parent_edge}
use Rattle.mrp_agent.specs.Rows.{part_at}
use Rattle.mrp_agent.proofs.drafting.pair_rows.Goals as goal

-- the edges of a pair end within all of them
edges_rise : (V : PlantRows) {edges : List ParentEdge} {starts : List ℕ} {place : ℕ}
    → IsGrouped (λ e. e.component) (length V.pairs) (map (parent_edge V) V.edges) edges starts
    → place < length V.pairs → (slice_index starts place ≤ slice_index starts (place + 1)) × (slice_index starts (place + 1) ≤ length edges)
edges_rise V {edges} {starts} {place} are within =
    IsGrouped-within (λ (e : ParentEdge). e.component) (length V.pairs) (map (parent_edge V) V.edges) edges starts place are within

pub get-requires-clause-rises : goal.get-requires-clause-rises
get-requires-clause-rises c = (edges_rise c.args.view.now c.requires.edges c.requires.place).0

pub get-requires-clause-within : goal.get-requires-clause-within
get-requires-clause-within c = (edges_rise c.args.view.now c.requires.edges c.requires.place).1

pub returns-clause-incoming : goal.returns-clause-incoming
returns-clause-incoming c = c.part_of.ensures ∙ ap (λ (h : ℕ). part_at h c.args.place c.args.receipts.now) (c.get-periods.ensures.value ∙ c.horizon.ensures)

pub returns-clause-demand : goal.returns-clause-demand
returns-clause-demand c = c.part_of-2.ensures ∙ ap (λ (h : ℕ). part_at h c.args.place c.args.demand.now) (c.get-periods.ensures.value ∙ c.horizon.ensures)
