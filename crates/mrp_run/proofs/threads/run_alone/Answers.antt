use Rattle.std.proofs.Common.{ℕ, sym, subst}
use Rattle.mrp_run.specs.Faults.{AllowsOf, WasShut, WasSpent}
use Rattle.mrp_run.proofs.threads.run_alone.Goals as goal

-- the crew has so many workers
pub run_owned-requires-clause-rule : goal.run_owned-requires-clause-rule
run_owned-requires-clause-rule g c κs within =
    let Rule : ℕ → Type 0 = λ workers.
    AllowsOf g.S.StopRule.holds (WasShut g.G.Gate.turn_open g.G.Gate.turn_shut g.G.Gate.worker_shut workers c.args.turns)
    (WasSpent g.G.Gate.turn_open c.args.turns) c.args.number in
    subst Rule (sym c.in-Ok.ensures.workers) c.requires.rule
