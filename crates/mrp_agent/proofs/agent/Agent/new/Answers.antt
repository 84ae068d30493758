use Rattle.std.proofs.Common.{◌≡◌, sym, ◌∙◌, ap, subst, IfOk}
use Rattle.mrp_plant_view.specs.Seen.{IsView}
use Rattle.mrp_plant_view.specs.View.{PlantRows}
use Rattle.mrp_agent.specs.Kept.{HasSmallOpenings}
use Rattle.mrp_agent.specs.State.{AgentState}
use Rattle.mrp_agent.proofs.agent.Agent.new.Goals as goal

pub of_parts-requires : goal.of_parts-requires
of_parts-requires c =
    let same = c.into_parts-frame.ensures.frame in
    record {
      seen = subst IsView (sym same) c.requires.seen;
      openings = subst HasSmallOpenings (sym same) c.requires.openings;
      demands = c.into_parts-frame.ensures.demands ∙ ap (λ (V : PlantRows). V.demands) (sym same);
      receipts = c.into_parts-frame.ensures.receipts ∙ ap (λ (V : PlantRows). V.receipts) (sym same);
    }

pub returns-clause-view : goal.returns-clause-view
returns-clause-view c = subst (λ (V : PlantRows). IfOk c.of_parts.result (λ (agent : AgentState). agent.view ≡ V)) c.into_parts-frame.ensures.frame
    c.of_parts.ensures.view
