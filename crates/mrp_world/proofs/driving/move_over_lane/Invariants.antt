use Rattle.mrp_world.specs.Driving.{LeadOn}
use Rattle.mrp_world.proofs.driving.move_over_lane.Given as goal

-- events have led on from the beginning
abbrev pub invariant-loop-record : goal.invariant-loop-record
invariant-loop-record g l = LeadOn g.P.Plant.shows l.network l.fn.plants l.fn.boxes 1 l.plants l.boxes
