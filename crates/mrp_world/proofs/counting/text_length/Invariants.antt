use Rattle.std.proofs.Common.{◌≡◌, ◌+◌, take}
use Rattle.std.specs.List.{sum_by}
use Rattle.mrp_net.specs.Lanes.{lane_at}
use Rattle.mrp_record.specs.Lengths.{block_length}
use Rattle.mrp_protocol.specs.Loads.{load_of}
use Rattle.mrp_world.proofs.counting.text_length.Given as goal

-- the blocks so far and the closing record
abbrev pub invariant-loop-item : goal.invariant-loop-item
invariant-loop-item l =
    l.records ≡ sum_by (λ item. block_length (load_of l.network (lane_at l.network l.lane.0) item)) (take l.item-index l.item-items) + 1
