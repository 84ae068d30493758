use Rattle.std.proofs.Common.{◌∙◌, map, ap, sym, subst}
use Rattle.std.proofs.lemmas.List.{take_all}
use Rattle.mrp_plant_view.specs.Seen.{IsIncomingLane}
use Rattle.mrp_agent.specs.Kept.{HasSmallItems}
use Rattle.mrp_agent.specs.Making.{new_figures}
use Rattle.mrp_agent.proofs.Made.{map_more}
use Rattle.mrp_agent.proofs.making.new_books.Goals as goal

pub new_book-requires-clause-lane : goal.new_book-requires-clause-lane
new_book-requires-clause-lane c = subst (IsIncomingLane c.args.view.now) (sym c.lane-item.is)
    (c.requires.lanes c.loop-lane.lane-index c.lane-item.result c.loop-lane-test.true)

pub new_book-requires-clause-openings : goal.new_book-requires-clause-openings
new_book-requires-clause-openings c = subst HasSmallItems (sym c.lane-item.is)
    (c.requires.openings c.loop-lane.lane-index c.lane-item.result c.loop-lane-test.true)

pub loop-lane-init : goal.loop-lane-init
loop-lane-init c = c.new-books.ensures.items

pub loop-lane-preserved : goal.loop-lane-preserved
loop-lane-preserved c =
    map_more (new_figures c.args.view.now) c.args.lanes.now c.loop-lane.lane-index _ _ _ _ _ c.loop-lane-test.true c.lane-item.is c.in_ok-new_book.ensures.value
    c.loop-lane.invariant
    c.in_ok-push.ensures.items

pub returns : goal.returns
returns c = c.loop-lane.invariant ∙ ap (map (new_figures c.args.view.now)) (take_all c.loop-lane.lane-index c.args.lanes.now c.loop-lane-test.false)
