use Rattle.std.specs.List.{flat_map}
use Rattle.mrp_plant_view.specs.declared.view.PlantPair.{PlantPair}
use Rattle.mrp_plant_view.specs.View.{edges_to}
use Rattle.mrp_plant_view.proofs.Pushing.{flat_pushed, taken_all}
use Rattle.mrp_plant_view.proofs.viewing.plant_edges.Goals as goal

pub loop-pair-init : goal.loop-pair-init
loop-pair-init c = c.new-edges.ensures.items

pub loop-pair-preserved : goal.loop-pair-preserved
loop-pair-preserved c =
    flat_pushed (λ (p : PlantPair). edges_to c.args.network.now p.number.0) c.args.pairs.now c.loop-pair.pair-index c.pair-item.result _ _ c.loop-pair-test.true
    c.pair-item.is c.loop-pair.invariant c.in_ok-add_edges.ensures

pub returns : goal.returns
returns c = taken_all (flat_map (λ (p : PlantPair). edges_to c.args.network.now p.number.0)) c.args.pairs.now c.loop-pair.pair-index _ c.loop-pair-test.false
    c.loop-pair.invariant
