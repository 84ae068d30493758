use Rattle.std.proofs.Common.{◌≡◌}
use Rattle.std.specs.List.{flat_map, range_with_len}
use Rattle.mrp_net.specs.Lanes.{lanes_of}
use Rattle.mrp_net.proofs.lanes.all_lanes.Given as goal

abbrev pub invariant-loop-customer : goal.invariant-loop-customer
invariant-loop-customer l = l.lanes.items ≡ flat_map (lanes_of l.tables) (range_with_len 0 l.customer)
