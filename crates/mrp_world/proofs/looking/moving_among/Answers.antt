use Rattle.std.proofs.Common.{arith}
use Rattle.mrp_world.specs.Moves.{LaneRests}
use Rattle.mrp_world.proofs.Looks as look
use Rattle.mrp_world.proofs.looking.moving_among.Goals as goal

pub loop-l-preserved : goal.loop-l-preserved
loop-l-preserved g c =
    look.loop_more (λ k. LaneRests g.P.Plant.shows c.args.network.now k c.args.plants.now c.args.boxes.now) _ _ c.loop-l.invariant
    (look.none_gives _ _ c.moving.ensures.none c.in_default.is)

pub returns-clause-none : goal.returns-clause-none
returns-clause-none g c l low high = c.loop-l.invariant l low (omega (arith, high, c.loop-l-test.false))
