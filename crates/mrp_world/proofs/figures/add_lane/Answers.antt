use Rattle.std.proofs.Common.{◌++◌, List, map, ap, ◌∙◌}
use Rattle.std.proofs.lemmas.List.{take_all}
use Rattle.mrp_master_data.specs.declared.numbers.ItemNo.{ItemNo}
use Rattle.mrp_world.specs.Figures.{lane_figure_at}
use Rattle.mrp_world.proofs.Pieces as piece
use Rattle.mrp_world.proofs.figures.add_lane.Goals as goal

pub loop-item-preserved : goal.loop-item-preserved
loop-item-preserved g c capacity s at =
    piece.figures_next (lane_figure_at c.args.network.now s c.args.lane.0) _ _ _ c.lane_items-item-items.result.now c.loop-item.item-index _ _
    c.loop-item-test.true
    (c.loop-item.invariant capacity s at) c.in_ok-push.ensures.items (c.figure.ensures capacity s at)

pub returns : goal.returns
returns g c capacity s at =
    let F = lane_figure_at c.args.network.now s c.args.lane.0 in
    c.loop-item.invariant capacity s at
    ∙ ap (λ (xs : List ItemNo). c.args.figures.now.items ++ map F xs)
    (take_all c.loop-item.item-index c.lane_items-item-items.result.now c.loop-item-test.false ∙ c.lane_items-item-items.ensures.value)
