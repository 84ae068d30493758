use Rattle.std.proofs.Common.{length}
use Rattle.mrp_run.specs.Faults.{WasShut, WasSpent}
use Rattle.mrp_run.specs.Worst.{IsOfFirst}
use Rattle.mrp_run.proofs.network.run_to.Given as goal

-- the plants stop for faults that one of them may meet
abbrev pub ghosts-run_plants : goal.ghosts-run_plants
ghosts-run_plants g a = record {
  holds = IsOfFirst (WasShut g.G.Gate.turn_open g.G.Gate.turn_shut g.G.Gate.worker_shut a.workers a.turns)
      (WasSpent g.G.Gate.turn_open a.turns) (length a.plants.items);
}
