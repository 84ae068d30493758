use Rattle.std.proofs.Common.{◌∙◌, ℕ, List, length, replicate, ap, subst}
use Rattle.std.proofs.lemmas.List.{length-replicate}
use Rattle.mrp_netting.specs.PlanRows.{PlanRows}
use Rattle.mrp_plant_view.specs.declared.view.PlantPair.{PlantPair}
use Rattle.mrp_netting.specs.Plan.{nothing_planned}
use Rattle.mrp_agent.specs.Making.{AreFit}
use Rattle.mrp_agent.proofs.parts.Amounts.new.Goals as goal

pub returns-clause-scheduled_receipts : goal.returns-clause-scheduled_receipts
returns-clause-scheduled_receipts c = c.requires.scheduled_receipts

pub returns-clause-outside_demand : goal.returns-clause-outside_demand
returns-clause-outside_demand c = c.requires.outside_demand

pub returns-clause-plans : goal.returns-clause-plans
returns-clause-plans c =
    c.in_ok-plans.ensures
    ∙ ap (λ (z : List PlantPair). replicate (length z) (nothing_planned c.horizon.result)) c.pairs.ensures
    ∙ ap (λ (h : ℕ). replicate (length c.args.view.now.pairs) (nothing_planned h)) c.horizon.ensures

pub returns-clause-room : goal.returns-clause-room
returns-clause-room c = ap (λ (plan : PlanRows). length plan.gross) c.in_ok-room.ensures ∙ length-replicate c.horizon-2.result 0 ∙ c.horizon-2.ensures

pub returns-clause-receipts : goal.returns-clause-receipts
returns-clause-receipts c = subst AreFit (c.deref.ensures.value ∙ c.requires.scheduled_receipts) c.are_fit.ensures

pub returns-clause-demands : goal.returns-clause-demands
returns-clause-demands c = subst AreFit (c.deref-2.ensures.value ∙ c.requires.outside_demand) c.are_fit-2.ensures
