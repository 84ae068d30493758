use Rattle.mrp_world.specs.Moves.{PlantsRest}
use Rattle.mrp_world.proofs.looking.ready_among.Given as goal

-- the plants so far rest
abbrev pub invariant-loop-p : goal.invariant-loop-p
invariant-loop-p g l = PlantsRest g.P.Plant.shows l.network l.from l.p l.plants l.boxes
