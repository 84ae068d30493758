use Rattle.std.proofs.Common.{◌++◌, List, map, ap, ◌∙◌}
use Rattle.std.proofs.lemmas.List.{take_all}
use Rattle.mrp_master_data.specs.declared.numbers.ItemNo.{ItemNo}
use Rattle.mrp_world.specs.Figures.{settled_figure}
use Rattle.mrp_world.proofs.Pieces as piece
use Rattle.mrp_world.proofs.ending.add_lane.Goals as goal

pub loop-item-preserved : goal.loop-item-preserved
loop-item-preserved c =
    piece.figures_next (settled_figure c.args.network.now c.args.lane.0) _ _ _ c.lane_items-item-items.result.now c.loop-item.item-index _ _
    c.loop-item-test.true c.loop-item.invariant c.in_ok-push.ensures.items c.settled_figure.ensures

pub returns : goal.returns
returns c =
    let F = settled_figure c.args.network.now c.args.lane.0 in
    c.loop-item.invariant
    ∙ ap (λ (xs : List ItemNo). c.args.figures.now.items ++ map F xs)
    (take_all c.loop-item.item-index c.lane_items-item-items.result.now c.loop-item-test.false ∙ c.lane_items-item-items.ensures.value)
