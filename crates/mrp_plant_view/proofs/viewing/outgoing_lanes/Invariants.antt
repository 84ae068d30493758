use Rattle.std.proofs.Common.{◌≡◌, map, take}
use Rattle.mrp_plant_view.specs.View.{outgoing_lane}
use Rattle.mrp_plant_view.proofs.viewing.outgoing_lanes.Given as goal

-- the lanes of the numbers before this one
abbrev pub invariant-loop-number : goal.invariant-loop-number
invariant-loop-number l = l.lanes.items ≡ map (λ x. outgoing_lane l.network x.0) (take l.number-index l.numbers)
