use Rattle.std.proofs.Common.{◌≡◌, ◌++◌}
use Rattle.std.specs.List.{flat_map, range_with_len}
use Rattle.mrp_net.specs.Lanes.{lanes_between}
use Rattle.mrp_net.proofs.lanes.add_lanes.Given as goal

abbrev pub invariant-loop-supplier : goal.invariant-loop-supplier
invariant-loop-supplier l = l.lanes.items ≡ l.fn.lanes.items ++ flat_map (lanes_between l.tables l.customer) (range_with_len 0 l.supplier)
