use Rattle.mrp_run.specs.Steps.{KeepsPlant}
use Rattle.mrp_run.proofs.moving.move_records.Given as goal

-- what was moved so far kept the plant at work
abbrev pub invariant-loop-k : goal.invariant-loop-k
invariant-loop-k g l = KeepsPlant l.fn.plant l.plant
