use Rattle.std.proofs.Common.{List, rules, eqb, sym, ap, ◌∙◌, subst}
use Rattle.std.specs.List.{position}
use Rattle.std.proofs.lemmas.List.Sorted.{answers_always}
use Rattle.mrp_plant_view.specs.declared.view.PlantPair.{PlantPair}
use Rattle.mrp_plant_view.specs.View.{PlantRows, NumbersRise}
use Rattle.mrp_plant_view.proofs.Placing.{placed}
use Rattle.mrp_plant_view.proofs.frame.PlantFrame.searched_place.Goals as goal

pub returns : goal.returns
returns c =
    let facts = c.binary_search_by_key-found.ensures in
    let pairs : List PlantPair = c.self.inside.pairs.items in
    let slice : List PlantPair = c.deref.result.now in
    let rises : NumbersRise slice = subst (λ (z : List PlantPair). NumbersRise z) (sym c.deref.ensures.value) c.self.invariant in
    let by_key = facts.position (λ (p : PlantPair). p.number.0) (answers_always _ _ _ (λ f a r g called. search rules)) in
    c.ok.ensures.value
    ∙ placed slice c.args.x.0 c.binary_search_by_key-found.result rises facts.bound by_key
    ∙ ap (λ (z : List PlantPair). position (λ (p : PlantPair). eqb p.number.0 c.args.x.0) z) c.deref.ensures.value
    ∙ ap (λ (z : PlantRows). position (λ (p : PlantPair). eqb p.number.0 c.args.x.0) z.pairs) c.self.view_is
