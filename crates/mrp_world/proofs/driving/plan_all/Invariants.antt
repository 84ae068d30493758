use Rattle.std.proofs.Common.{List}
use Rattle.mrp_world.specs.Driving.{Tried}
use Rattle.mrp_world.specs.Mailbox.{Held}
use Rattle.mrp_world.specs.Moves.{PlantsRest}
use Rattle.mrp_world.proofs.driving.plan_all.Given as goal

-- the plants so far were tried
abbrev pub invariant-loop-p : goal.invariant-loop-p
invariant-loop-p g l =
    (boxes : List Held) → Tried g.P.Plant.shows l.network l.fn.plants boxes (PlantsRest g.P.Plant.shows l.network 0 l.p) l.planned l.plants boxes
