use Rattle.std.proofs.Common.{◌++◌, ◌∷◌, [], map, ap, ◌∙◌, List}
use Rattle.mrp_master_data.specs.declared.rows.UsageRow.{UsageRow}
use Rattle.mrp_net.specs.Usages.{usages_to}
use Rattle.mrp_plant_view.specs.declared.view.PlantPair.{PlantPair}
use Rattle.mrp_plant_view.proofs.Pushing.{map_pushed, taken_all}
use Rattle.mrp_plant_view.proofs.viewing.plant_usages.Goals as goal

pub loop-pair-init : goal.loop-pair-init
loop-pair-init c = c.new-usages.ensures

pub loop-pair-preserved : goal.loop-pair-preserved
loop-pair-preserved c =
    map_pushed (λ (p : PlantPair). usages_to c.args.network.now p.number.0) c.args.pairs.now c.loop-pair.pair-index c.pair-item.result _ _ c.loop-pair-test.true
    c.pair-item.is c.loop-pair.invariant
    (c.in_ok-push.ensures ∙ ap (λ (z : List UsageRow). c.loop-pair.usages ++ z ∷ []) c.usages_to.ensures.value)

pub returns : goal.returns
returns c = taken_all (map (λ (p : PlantPair). usages_to c.args.network.now p.number.0)) c.args.pairs.now c.loop-pair.pair-index _ c.loop-pair-test.false
    c.loop-pair.invariant
