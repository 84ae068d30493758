use Rattle.std.proofs.Common.{take}
use Rattle.mrp_readiness.specs.declared.join.Join.{Join}
use Rattle.mrp_readiness.specs.Counts.{AreCounted}
use Rattle.mrp_readiness.proofs.waits.count_joins.Given as goal

abbrev pub invariant-loop-join : goal.invariant-loop-join
invariant-loop-join l = AreCounted (λ (j : Join). j.component) l.initial.waits l.waits (take l.join-index l.joins)
