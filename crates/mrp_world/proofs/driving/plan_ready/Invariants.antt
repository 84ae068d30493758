use Rattle.std.proofs.Common.{List}
use Rattle.mrp_world.specs.Driving.{LeadOn}
use Rattle.mrp_world.specs.Mailbox.{Held}
use Rattle.mrp_world.proofs.driving.plan_ready.Given as goal

-- events have led on from the beginning
abbrev pub invariant-loop-pair : goal.invariant-loop-pair
invariant-loop-pair g l = (boxes : List Held) → LeadOn g.P.Plant.shows l.network l.fn.plants boxes 1 l.plants boxes
