use Rattle.std.proofs.Common.{List, get_or, sym, subst, arith}
use Rattle.std.specs.List.{Contains, IsDistinct}
use Rattle.std.proofs.lemmas.List.{get_or_default}
use Rattle.mrp_master_data.specs.declared.numbers.ItemNo.{ItemNo}
use Rattle.mrp_lane.specs.Tallies.{is_same_pieces}
use Rattle.mrp_lane.proofs.Counting.{opened_all, opened_apart, opened_more}
use Rattle.mrp_lane.proofs.tally.opened.Goals as goal

pub returns-clause-once : goal.returns-clause-once
returns-clause-once c =
    subst (IsDistinct is_same_pieces)
    (sym (opened_all c.args.network.now c.args.lane.0 c.lane_items-on_lane.result.now c.loop-item.item-index c.loop-item.items.items c.loop-item.invariant
    c.loop-item-test.false c.lane_items-on_lane.ensures.value))
    (opened_apart c.args.network.now c.args.lane.0 c.requires.sized.table)

pub loop-item-init : goal.loop-item-init
loop-item-init c = c.in_ok-items.ensures.items

pub offset_bounds-on_lane-item-index : goal.offset_bounds-on_lane-item-index
offset_bounds-on_lane-item-index c = omega arith

pub bounds-on_lane-item-index : goal.bounds-on_lane-item-index
bounds-on_lane-item-index c = c.loop-item-test.true

pub opened_item-requires-clause-sized : goal.opened_item-requires-clause-sized
opened_item-requires-clause-sized c = c.requires.sized

pub opened_item-requires-clause-lane : goal.opened_item-requires-clause-lane
opened_item-requires-clause-lane c = c.requires.lane

pub opened_item-requires-clause-item : goal.opened_item-requires-clause-item
opened_item-requires-clause-item c =
    let there : Contains c.lane_items-on_lane.result.now (get_or c.lane_items-on_lane.result.now c.loop-item.item-index (record { 0 = 0 })) =
    (c.loop-item.item-index, c.loop-item-test.true, get_or_default c.lane_items-on_lane.result.now c.loop-item.item-index _ _ c.loop-item-test.true) in
    subst (λ (items : List ItemNo). Contains items (get_or c.lane_items-on_lane.result.now c.loop-item.item-index (record { 0 = 0 })))
    c.lane_items-on_lane.ensures.value there

pub loop-item-preserved : goal.loop-item-preserved
loop-item-preserved c =
    opened_more c.args.network.now c.args.lane.0 c.lane_items-on_lane.result.now c.loop-item.item-index _ _ _ c.loop-item-test.true c.loop-item.invariant
    c.opened_item.ensures c.in_ok-push.ensures.items

pub returns-clause-items : goal.returns-clause-items
returns-clause-items c =
    opened_all c.args.network.now c.args.lane.0 c.lane_items-on_lane.result.now c.loop-item.item-index c.loop-item.items.items c.loop-item.invariant
    c.loop-item-test.false c.lane_items-on_lane.ensures.value
