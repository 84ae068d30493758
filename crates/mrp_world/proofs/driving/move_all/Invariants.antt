use Rattle.mrp_world.specs.Driving.{Tried}
use Rattle.mrp_world.specs.Moves.{LanesRest}
use Rattle.mrp_world.proofs.driving.move_all.Given as goal

-- the lanes so far were tried
abbrev pub invariant-loop-l : goal.invariant-loop-l
invariant-loop-l g l = Tried g.P.Plant.shows l.network l.fn.plants l.fn.boxes (LanesRest g.P.Plant.shows l.network 0 l.l) l.happened l.plants l.boxes
