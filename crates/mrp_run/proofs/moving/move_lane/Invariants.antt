use Rattle.mrp_run.specs.Steps.{KeepsPlant}
use Rattle.mrp_run.proofs.moving.move_lane.Given as goal

-- what was moved so far kept the plant at work
abbrev pub invariant-loop : goal.invariant-loop
invariant-loop g l = KeepsPlant l.fn.plant l.plant
