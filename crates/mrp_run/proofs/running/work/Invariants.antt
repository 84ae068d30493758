use Rattle.std.proofs.Common.{◌≡◌}
use Rattle.mrp_run.specs.Faults.{WasSpent}
use Rattle.mrp_run.specs.Steps.{IsUnfinished, KeepsPlant}
use Rattle.mrp_run.proofs.running.work.Given as goal

-- the turns so far kept the plant at work, and the gate was open to each of them
abbrev pub invariant-loop-turn : goal.invariant-loop-turn
invariant-loop-turn g l = record {
  kept : KeepsPlant l.fn.plant l.plant;
  crew : l.crew ≡ l.fn.crew;
  spent : WasSpent g.G.Gate.turn_open l.turn l.fn.number.0;
  unfinished : IsUnfinished l.fn.plant l.plant;
}
