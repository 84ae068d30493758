use Rattle.std.proofs.Common.{◌≡◌, ℕ, length, ap, ◌∙◌, arith}
use Rattle.std.specs.List.{flat_map, range_with_len}
use Rattle.mrp_net.specs.Lanes.{lanes}
use Rattle.mrp_world.specs.Figures.{figures_in_lane}
use Rattle.mrp_world.proofs.Pieces as piece
use Rattle.mrp_world.proofs.figures.figures.Goals as goal

pub loop-l-preserved : goal.loop-l-preserved
loop-l-preserved g c capacity s at =
    piece.lanes_next (figures_in_lane c.args.network.now s) _ _ c.loop-l.l (c.loop-l.invariant capacity s at) (c.in_ok-add_lane.ensures capacity s at)

pub returns : goal.returns
returns g c capacity s at =
    let all : c.loop-l.l ≡ length (lanes c.args.network.now) = omega (arith, c.loop-l-test.false, c.loop-l.auto.l-end, c.lanes-l-end.ensures) in
    c.loop-l.invariant capacity s at ∙ ap (λ (n : ℕ). flat_map (figures_in_lane c.args.network.now s) (range_with_len 0 n)) all
