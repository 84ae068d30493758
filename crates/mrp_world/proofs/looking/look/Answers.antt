use Rattle.std.proofs.Common.{length, arith}
use Rattle.mrp_net.specs.Lanes.{lanes}
use Rattle.mrp_world.specs.Moves.{LaneRests}
use Rattle.mrp_world.proofs.Looks as look
use Rattle.mrp_world.proofs.looking.look.Goals as goal

pub returns-clause-none : goal.returns-clause-none
returns-clause-none g c =
    let shows = g.P.Plant.shows in
    let N = c.args.network.now in
    let high = look.none_gives _ _ c.moving_among.ensures.none c.in_default-moving_among.is in
    let low = look.none_gives _ _ c.moving_among-2.ensures.none c.in_default-moving_among-2.is in
    look.none_more _ _ _ (look.all_rests shows N c.args.plants.now c.args.boxes.now
    (look.loop_round (λ k. LaneRests shows N k c.args.plants.now c.args.boxes.now) c.min-from.result (length (lanes N))
    (λ k a b. high k a (omega (arith, b, c.lanes-lanes.ensures))) low))
    c.ready_among-2.ensures.none
