use Rattle.std.proofs.Common.{set, refl, ap, sym, ◌∙◌}
use Rattle.std.proofs.lemmas.List.{set-get_or}
use Rattle.mrp_master_data.specs.declared.rows.PairRow.{PairRow}
use Rattle.mrp_world.proofs.Looks as look
use Rattle.mrp_world.proofs.Steps as step
use Rattle.mrp_world.proofs.acting.plan.Goals as goal

pub plan-requires : goal.plan-requires
plan-requires g c = let is = ap (λ (row : PairRow). row.plant.0) (sym c.pair.ensures) in let some = c.requires.shown in
    record { pair = step.may_plan _ _ _ _ _ _ _ some.1 c.requires.pair (step.owner_known _ _ _ _ _ _ some.1 c.requires.pair is) is }

pub returns : goal.returns
returns g c boxes =
    let is = ap (λ (row : PairRow). row.plant.0) (sym c.pair.ensures) in
    let known = step.owner_known _ _ _ _ _ _ c.requires.shown.1 c.requires.pair is in
    look.by_answer _ _ _
    (λ could. step.plan_leads _ g.met.P.Plant.stays _ _ _ _ _ _ _ c.requires.pair known is (c.plan.ensures.can could) (c.plan.ensures.planned could))
    (λ none. record {
      holds = step.cannot_leads_nowhere _ _ _ _ _ _ _ c.requires.pair known is (c.plan.ensures.cannot none);
      same_plants = ap (set c.args.plants.now c.pair.result.plant.0) (c.plan.ensures.unchanged none) ∙ set-get_or c.args.plants.now c.pair.result.plant.0 _;
      same_boxes = refl;
    })
