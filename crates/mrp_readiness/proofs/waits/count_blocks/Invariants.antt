use Rattle.std.proofs.Common.{ℕ, take}
use Rattle.mrp_readiness.specs.Counts.{AreCounted}
use Rattle.mrp_readiness.proofs.waits.count_blocks.Given as goal

abbrev pub invariant-loop-y : goal.invariant-loop-y
invariant-loop-y l = AreCounted (λ (y : ℕ). y) l.initial.waits l.waits (take l.y-index l.awaited)
