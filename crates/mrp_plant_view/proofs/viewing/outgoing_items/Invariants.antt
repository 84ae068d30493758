use Rattle.std.proofs.Common.{◌≡◌, map, take}
use Rattle.mrp_net.specs.Lanes.{lane_at}
use Rattle.mrp_plant_view.specs.View.{outgoing_item}
use Rattle.mrp_plant_view.proofs.viewing.outgoing_items.Given as goal

abbrev pub invariant-loop-item : goal.invariant-loop-item
invariant-loop-item l = l.items ≡ map (outgoing_item l.network (lane_at l.network l.l.0)) (take l.item-index l.item-items)
