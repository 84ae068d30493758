use Rattle.std.proofs.Common.{◌++◌, ◌∙◌, List, map, ap, sym, subst}
use Rattle.std.specs.List.{All, flat_map}
use Rattle.std.proofs.lemmas.List.{take_all}
use Rattle.mrp_plant_view.specs.declared.view.IncomingItem.{IncomingItem}
use Rattle.mrp_plant_view.specs.declared.view.IncomingLane.{IncomingLane}
use Rattle.mrp_plant_view.specs.Seen.{IsIncomingItem, IsIncomingLane}
use Rattle.mrp_agent.specs.Making.{place_awaited}
use Rattle.mrp_agent.proofs.Made.{flat_more}
use Rattle.mrp_agent.proofs.making.awaited_places.Goals as goal

pub add_awaited-requires : goal.add_awaited-requires
add_awaited-requires c =
    let lane = subst (IsIncomingLane c.args.view.now) (sym c.lane-item.is) (c.requires c.loop-lane.lane-index c.lane-item.result c.loop-lane-test.true) in
    subst (λ (z : List IncomingItem). All (IsIncomingItem c.args.view.now) z) (sym c.as_slice.ensures) lane.items

pub loop-lane-init : goal.loop-lane-init
loop-lane-init c = c.new-places.ensures.items

pub loop-lane-preserved : goal.loop-lane-preserved
loop-lane-preserved c =
    let V = c.args.view.now in
    let grown = c.in_ok-add_awaited.ensures ∙ ap (λ (z : List IncomingItem). c.loop-lane.places.items ++ map (place_awaited V) z) c.as_slice.ensures in
    flat_more (λ (lane : IncomingLane). map (place_awaited V) lane.items) c.args.lanes.now c.loop-lane.lane-index _ c.lane-item.result _ _ c.loop-lane-test.true
    c.lane-item.is
    c.loop-lane.invariant grown

pub returns : goal.returns
returns c =
    c.loop-lane.invariant
    ∙ ap (flat_map (λ (lane : IncomingLane). map (place_awaited c.args.view.now) lane.items))
    (take_all c.loop-lane.lane-index c.args.lanes.now c.loop-lane-test.false)
