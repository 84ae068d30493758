use Rattle.std.proofs.Common.{List, eqb, sym, ap, ◌∙◌, subst}
use Rattle.std.specs.List.{position}
use Rattle.mrp_plant_view.specs.declared.view.PlantPair.{PlantPair}
use Rattle.mrp_plant_view.specs.View.{PlantRows, NumbersRise}
use Rattle.mrp_plant_view.proofs.Placing.{is_below, placed_at}
use Rattle.mrp_plant_view.proofs.frame.PlantFrame.following_place.Goals as goal

pub returns-then-pair-x : goal.returns-then-pair-x
returns-then-pair-x c =
    let slice : List PlantPair = c.deref-2.result.now in
    let rises : NumbersRise slice = subst (λ (z : List PlantPair). NumbersRise z) (sym c.deref-2.ensures.value) c.self.invariant in
    let found = c.in_ok-pair.ensures.lookup in
    let pair : PlantPair = c.in_ok-pair.pair.now in
    placed_at slice c.args.x.0 c.in_ok-place.place pair rises (is_below _ _ found.0) (ap (λ (p : PlantPair). p.number.0) (sym found.1) ∙ c.if-pair-x.true)
    ∙ ap (λ (z : List PlantPair). position (λ (p : PlantPair). eqb p.number.0 c.args.x.0) z) c.deref-2.ensures.value
    ∙ ap (λ (z : PlantRows). position (λ (p : PlantPair). eqb p.number.0 c.args.x.0) z.pairs) c.self.view_is
