use Rattle.std.proofs.Common.{arith}
use Rattle.mrp_net.specs.Lanes.{lane_at}
use Rattle.mrp_world.proofs.Carrying.{carried_is_small}
use Rattle.mrp_world.proofs.ending.settled_figure.Goals as goal

pub overflow_add-opening : goal.overflow_add-opening
overflow_add-opening c =
    let N = c.args.network.now in
    omega (
      arith,
      c.opening-opening.ensures,
      c.carried_on-pieces.ensures.pieces,
      carried_is_small N c.requires.sized (lane_at N c.args.lane.0) c.args.item c.requires.item,
    )

pub of-last-requires : goal.of-last-requires
of-last-requires c =
    let N = c.args.network.now in
    omega (
      arith,
      c.opening-opening.ensures,
      c.carried_on-pieces.ensures.pieces,
      carried_is_small N c.requires.sized (lane_at N c.args.lane.0) c.args.item c.requires.item,
    )
