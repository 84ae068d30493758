use Rattle.std.proofs.Common.{◌≤◌, ◌∙◌, ℕ, List, length, map, ap, refl, subst, sym, arith}
use Rattle.mrp_plant_view.specs.declared.view.PlantPair.{PlantPair}
use Rattle.mrp_plant_view.specs.Seen.{pairs_of_item}
use Rattle.mrp_grouping.specs.Starts.{IsGrouped}
use Rattle.mrp_agent.specs.declared.edges.ParentEdge.{ParentEdge}
use Rattle.mrp_agent.specs.Kept.{parent_edge}
use Rattle.mrp_agent.proofs.Opening.{components_known}
use Rattle.mrp_agent.proofs.parts.Structure.of_edges.Goals as goal

pub of_pairs-requires : goal.of_pairs-requires
of_pairs-requires c = subst (λ (z : List PlantPair). (item : ℕ) → pairs_of_item item z ≤ 1) (sym c.pairs.ensures) c.requires.seen.items_once

pub group-requires-clause-keys : goal.group-requires-clause-keys
group-requires-clause-keys c = components_known c.args.view.now c.requires.seen.edges c.pairs-2.ensures refl c.requires.parents refl

pub returns-clause-items : goal.returns-clause-items
returns-clause-items c = c.in_ok-items.ensures ∙ ap (λ (z : List PlantPair). map (λ p. p.item) z) c.pairs.ensures

pub returns-clause-edges : goal.returns-clause-edges
returns-clause-edges c =
    let V = c.args.view.now in
    let by : ParentEdge → ℕ = λ e. e.component in
    let rows = c.in_ok-edges.edges.rows.items in
    let starts = c.in_ok-edges.edges.starts.items in
    subst (λ (m : ℕ). IsGrouped by m (map (parent_edge V) V.edges) rows starts) (ap (λ (z : List PlantPair). length z) c.pairs-2.ensures)
    (subst (λ (z : List ParentEdge). IsGrouped by (length c.pairs-2.result.now) z rows starts) c.requires.parents c.in_ok-edges.ensures)

pub returns-clause-components : goal.returns-clause-components
returns-clause-components c = c.in_ok-components.ensures.components

pub returns-clause-first : goal.returns-clause-first
returns-clause-first c = c.in_ok-components.ensures.first

pub group-requires-clause-few : goal.group-requires-clause-few
group-requires-clause-few c = omega (arith, ap (λ (z : List PlantPair). length z) c.pairs-2.ensures, c.requires.seen.few_pairs)
