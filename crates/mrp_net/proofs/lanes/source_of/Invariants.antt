use Rattle.std.proofs.Common.{◌-◌, ◌<◌, ◌≤◌, get_or, length}
use Rattle.mrp_net.specs.Sources.{source_no}
use Rattle.mrp_net.proofs.lanes.source_of.Given as goal

-- the source isn't before the place
abbrev pub invariant-loop-at : goal.invariant-loop-at
invariant-loop-at l = record {
  from : get_or l.starts l.fn.pair.0 0 ≤ l.at;
  still : l.at ≤ source_no l.tables l.fn.pair.0 l.plant.0;
  there : source_no l.tables l.fn.pair.0 l.plant.0 < length l.sources;
}

abbrev pub decreases-loop-at : goal.decreases-loop-at
decreases-loop-at l = length l.sources - l.at
