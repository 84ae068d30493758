use Rattle.std.proofs.Common.{sym}
use Rattle.mrp_lane.proofs.Counting.{more_at, others_stay}
use Rattle.mrp_lane.proofs.tally.add_pieces.Goals as goal

pub returns-in-Some : goal.returns-in-Some
returns-in-Some c =
    more_at c.args.item.0 c.args.quantity c.args.items.now c.in-Some.at c.index-items-at-in-Some.result c.index-items-at.result c.requires.once
    c.in-Some.ensures.inside (c.in-Some.ensures.found c.index-items-at-in-Some.result)

pub returns-in-None : goal.returns-in-None
returns-in-None c = sym (others_stay c.args.item.0 c.args.quantity c.args.items.now c.in-None.ensures.missing)
