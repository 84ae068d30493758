use Rattle.std.proofs.Common.{◌≡◌, take}
use Rattle.std.specs.List.{sum_by}
use Rattle.mrp_net.specs.Lanes.{lanes}
use Rattle.mrp_world.proofs.Counts.{text_of_lane}
use Rattle.mrp_world.proofs.counting.steps_by.Given as goal

-- the texts of the lanes so far
abbrev pub invariant-loop-l : goal.invariant-loop-l
invariant-loop-l l = l.records ≡ sum_by (text_of_lane l.network) (take l.l (lanes l.network))
