use Rattle.std.proofs.Common.{◌≡◌, ℕ, ◌+◌, ◌≤◌, ◌++◌, length, reverse, All}
use Rattle.std.specs.Prelude.{vec_capacity}
use Rattle.mrp_agent.specs.State.{AgentState}
use Rattle.mrp_crew.specs.Rooms.{WorkedFor, pairs_worked}
use Rattle.mrp_crew.specs.Shut.{AreLetIn, WasShutToWorker}
use Rattle.mrp_crew.specs.Started.{IsWorkerOf, IsFor, ordered}
use Rattle.mrp_crew.proofs.threads.join_all.Given as goal

-- the pairs of the threads that are left, and then those of the results, the last one's first
abbrev pub invariant-loop-worker : goal.invariant-loop-worker
invariant-loop-worker g l = record {
  pairs : ordered l.workers.items ++ pairs_worked (reverse l.works.items) ≡ ordered l.initial.workers.items ++ pairs_worked (reverse l.initial.works.items);
  room : length l.workers.items + length l.works.items ≤ vec_capacity l.works;
  told : (A : AgentState) → All (IsFor A) l.initial.workers.items → All (IsFor A) l.workers.items;
  worked : (A : AgentState) → All (IsFor A) l.initial.workers.items → All (WorkedFor A) l.initial.works.items → All (WorkedFor A) l.works.items;
  at : (plant most : ℕ) → All (IsWorkerOf plant most) l.initial.workers.items → All (IsWorkerOf plant most) l.workers.items;
  shut : (plant most : ℕ) → All (IsWorkerOf plant most) l.initial.workers.items
      → AreLetIn (WasShutToWorker g.G.Gate.worker_shut most plant) l.initial.works.items
      → AreLetIn (WasShutToWorker g.G.Gate.worker_shut most plant) l.works.items;
}

abbrev pub decreases-loop-worker : goal.decreases-loop-worker
decreases-loop-worker g l = goal.left-loop-worker g l
