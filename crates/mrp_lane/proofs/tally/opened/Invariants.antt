use Rattle.std.proofs.Common.{◌≡◌, [], map, take}
use Rattle.mrp_lane.specs.Tallies.{item_pieces_of}
use Rattle.mrp_lane.proofs.tally.opened.Given as goal

abbrev pub invariant-loop-item : goal.invariant-loop-item
invariant-loop-item l = l.items.items ≡ map (item_pieces_of l.network l.lane.0 []) (take l.item-index l.on_lane)
