use Rattle.std.proofs.Common.{◌≡◌, List}
use Rattle.mrp_master_data.specs.declared.numbers.PairNo.{PairNo}
use Rattle.mrp_readiness.specs.Progress.{left_of}
use Rattle.mrp_crew.specs.Planning.{IsPlannable, PlansAll}
use Rattle.mrp_crew.proofs.crew.Crew.plan_ready.Given as goal

-- some pairs are planned so far
abbrev pub invariant-loop-alloc : goal.invariant-loop-alloc
invariant-loop-alloc g l = record {
  crew : l.self ≡ l.initial.self;
  planned : (xs : List PairNo) × PlansAll l.initial.agent l.agent xs;
  plannable : IsPlannable l.agent;
}

abbrev pub decreases-loop-alloc : goal.decreases-loop-alloc
decreases-loop-alloc g l = left_of l.agent.progress.planned
