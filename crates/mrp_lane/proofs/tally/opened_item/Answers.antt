use Rattle.std.proofs.Common.{ℕ, ◌≤◌, sym, subst}
use Rattle.mrp_qty.specs.declared.quantity.TheConstants.{MOST}
use Rattle.mrp_net.specs.Lanes.{lane_at}
use Rattle.mrp_protocol.proofs.Small.{openings_are_small}
use Rattle.mrp_lane.proofs.tally.opened_item.Goals as goal

pub of-requires : goal.of-requires
of-requires c =
    subst (λ (n : ℕ). n ≤ MOST) (sym c.opening.ensures)
    (openings_are_small c.args.network.now c.requires.sized (lane_at c.args.network.now c.args.lane.0) c.args.item c.requires.item)
