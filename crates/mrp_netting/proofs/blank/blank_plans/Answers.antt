use Rattle.std.proofs.Common.{◌≡◌, ◌∙◌, ◌++◌, ◌∷◌, ℕ, List, [], ap, arith, replicate}
use Rattle.std.proofs.lemmas.List.{replicate_more}
use Rattle.mrp_netting.specs.PlanRows.{PlanRows}
use Rattle.mrp_netting.specs.Plan.{nothing_planned}
use Rattle.mrp_netting.proofs.blank.blank_plans.Goals as goal

pub loop-place-init : goal.loop-place-init
loop-place-init c = c.in_ok-plans.ensures.items

pub loop-place-preserved : goal.loop-place-preserved
loop-place-preserved c =
    c.in_ok-push.ensures.items
    ∙ ap (λ (z : List PlanRows). z ++ c.in_ok-new.field-0 ∷ []) c.loop-place.invariant
    ∙ ap (λ (y : PlanRows). replicate c.loop-place.place (nothing_planned c.args.horizon) ++ y ∷ []) c.in_ok-new.ensures
    ∙ replicate_more c.loop-place.place (nothing_planned c.args.horizon)

pub returns : goal.returns
returns c =
    let all : c.loop-place.place ≡ c.args.count = omega (arith, c.loop-place-test.false, c.loop-place.auto.place-end) in
    c.loop-place.invariant ∙ ap (λ (n : ℕ). replicate n (nothing_planned c.args.horizon)) all
