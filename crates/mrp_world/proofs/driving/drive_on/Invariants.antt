use Rattle.mrp_world.specs.Driving.{LeadOn}
use Rattle.mrp_world.proofs.driving.drive_on.Given as goal

-- events have led on from the beginning, one each time
abbrev pub invariant-loop : goal.invariant-loop
invariant-loop g l = LeadOn g.P.Plant.shows l.network l.initial.plants.items l.initial.boxes.items l.counter l.plants.items l.boxes.items
