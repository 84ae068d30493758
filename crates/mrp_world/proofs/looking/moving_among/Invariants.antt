use Rattle.mrp_world.specs.Moves.{LanesRest}
use Rattle.mrp_world.proofs.looking.moving_among.Given as goal

-- the lanes so far rest
abbrev pub invariant-loop-l : goal.invariant-loop-l
invariant-loop-l g l = LanesRest g.P.Plant.shows l.network l.from l.l l.plants l.boxes
