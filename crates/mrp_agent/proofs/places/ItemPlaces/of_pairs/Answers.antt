use Rattle.std.proofs.Common.{◌∙◌, ap, map, refl}
use Rattle.std.proofs.lemmas.List.{take_all}
use Rattle.mrp_plant_view.specs.declared.view.PlantPair.{PlantPair}
use Rattle.mrp_agent.proofs.Made.{item_is_new, map_more}
use Rattle.mrp_agent.proofs.places.ItemPlaces.of_pairs.Goals as goal

pub push-requires : goal.push-requires
push-requires c = record {
  fresh = item_is_new (λ (p : PlantPair). p.item) c.args.pairs.now c.loop-pair.pair-index c.pair-item.result c.pair-item.result c.loop-pair.items
      (c.requires c.pair-item.result.item.0)
      c.loop-pair-test.true c.pair-item.is c.loop-pair.invariant;
}

pub loop-pair-preserved : goal.loop-pair-preserved
loop-pair-preserved c =
    map_more (λ (p : PlantPair). p.item) c.args.pairs.now c.loop-pair.pair-index c.pair-item.result c.pair-item.result _ c.loop-pair.items _
    c.loop-pair-test.true c.pair-item.is refl
    c.loop-pair.invariant c.in_ok-push.ensures.keys

pub returns : goal.returns
returns c = c.loop-pair.invariant ∙ ap (map (λ (p : PlantPair). p.item)) (take_all c.loop-pair.pair-index c.args.pairs.now c.loop-pair-test.false)
