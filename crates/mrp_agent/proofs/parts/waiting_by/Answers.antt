use Rattle.std.proofs.Common.{◌∙◌, List, length, map, ap, subst}
use Rattle.std.specs.List.{range_with_len}
use Rattle.mrp_plant_view.specs.declared.view.PlantPair.{PlantPair}
use Rattle.mrp_readiness.specs.declared.join.Join.{Join}
use Rattle.mrp_readiness.specs.Counts.{AreCounts, components_of}
use Rattle.mrp_readiness.specs.Progress.{times}
use Rattle.mrp_agent.specs.Making.{awaited_places}
use Rattle.mrp_agent.specs.Shows.{joins_of}
use Rattle.mrp_agent.proofs.Opening.{component_joins_known, demander_joins_known}
use Rattle.mrp_agent.proofs.parts.waiting_by.Goals as goal

pub new-requires-clause-known : goal.new-requires-clause-known
new-requires-clause-known c = demander_joins_known c.args.view.now c.requires.seen.edges c.pairs.ensures c.requires.joins

pub first_progress-requires-clause-joins : goal.first_progress-requires-clause-joins
first_progress-requires-clause-joins c = component_joins_known c.args.view.now c.requires.seen.edges c.requires.joins

pub returns-clause-components : goal.returns-clause-components
returns-clause-components c =
    c.in_ok-components.ensures
    ∙ ap (λ (z : List Join). map (components_of z) (range_with_len 0 (length c.pairs.result.now))) c.requires.joins
    ∙ ap (λ (z : List PlantPair). map (components_of (joins_of c.args.view.now)) (range_with_len 0 (length z))) c.pairs.ensures

pub returns-clause-first : goal.returns-clause-first
returns-clause-first c = record {
  numbers = c.in_ok-progress.ensures.numbers;
  size = c.in_ok-progress.ensures.size;
  planned = c.in_ok-progress.ensures.planned;
  waits =
      subst (λ (z : List Join). AreCounts c.in_ok-progress.progress.waits z c.in_ok-progress.progress.planned (λ y. times y (awaited_places c.args.view.now)))
      c.requires.joins c.in_ok-progress.ensures.waits;
}
