use Rattle.std.proofs.Common.{◌≡◌}
use Rattle.std.specs.List.{flat_map, range_with_len}
use Rattle.mrp_agent.specs.Queues.{lane_queues_at}
use Rattle.mrp_agent.proofs.queues.queue_places.Given as goal

abbrev pub invariant-loop-lane : goal.invariant-loop-lane
invariant-loop-lane l = l.places.items ≡ flat_map (lane_queues_at l.items l.lanes) (range_with_len 0 l.lane)
