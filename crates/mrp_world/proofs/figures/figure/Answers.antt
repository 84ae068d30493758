use Rattle.std.proofs.Common.{◌+◌, ◌∙◌, ◌≤◌, ℕ, ap, arith}
use Rattle.mrp_net.specs.Lanes.{lane_at}
use Rattle.mrp_protocol.proofs.Small.{openings_are_small}
use Rattle.mrp_world.proofs.Pieces as piece
use Rattle.mrp_world.proofs.figures.figure.Goals as goal
use Rattle.mrp_world.proofs.figures.figure.Given.{Over}
use Rattle.mrp_world.proofs.figures.figure.Goals.{After-get}

pub of-opening-requires : goal.of-opening-requires
of-opening-requires g c =
    omega (
      arith,
      c.opening.ensures,
      openings_are_small c.args.network.now c.requires.shown.2.sized
          (lane_at c.args.network.now c.args.lane.0) c.args.item c.requires.item,
    )

pub pieces-waiting-requires : goal.pieces-waiting-requires
pieces-waiting-requires g c =
    omega (
      arith,
      piece.waiting_is_small g.P.Plant.shows c.args.network.now c.args.plants.now c.args.boxes.now c.args.lane.0 c.args.item
          c.index-boxes-lane.result c.requires.lane c.requires.item c.requires.shown c.index-boxes-lane.is,
    )

pub received-received-requires : goal.received-received-requires
received-received-requires g c = record {
  lane = piece.may_be_asked
      (piece.read_on _ _ _ _ _ _ _ _ _ c.requires.lane c.requires.item c.requires.shown c.index-boxes-lane.is c.lane.ensures.value c.lane.ensures.plants
      c.index-plants-receiver.is);
}

-- what was received and what lies in the mailbox is small
fits : (g : Over) (c : After-get g) → c.received-received.result + c.pieces-waiting.result ≤ 1000000000000000
fits g c =
    piece.shipped_fits
    (piece.read_on _ _ _ _ _ _ _ _ _ c.requires.lane c.requires.item c.requires.shown c.index-boxes-lane.is c.lane.ensures.value c.lane.ensures.plants
    c.index-plants-receiver.is)
    c.received-received.result c.pieces-waiting.result c.received-received.ensures c.pieces-waiting.ensures

pub overflow_add-get : goal.overflow_add-get
overflow_add-get g c = omega (arith, c.get.ensures.value, fits g (goal.at.overflow_add-get g c).After-get)

pub of-requires : goal.of-requires
of-requires g c = omega (arith, c.get.ensures.value, fits g (goal.at.of-requires g c).After-get)

pub returns : goal.returns
returns g c =
    piece.figure_is
    (piece.read_on _ _ _ _ _ _ _ _ _ c.requires.lane c.requires.item c.requires.shown c.index-boxes-lane.is c.lane.ensures.value c.lane.ensures.plants
    c.index-plants-receiver.is)
    c.received-received.result c.pieces-waiting.result c.received-received.ensures c.pieces-waiting.ensures _ _ (c.of-opening.ensures ∙ c.opening.ensures)
    (c.of.ensures ∙ ap (λ (n : ℕ). n + c.pieces-waiting.result) c.get.ensures.value)
