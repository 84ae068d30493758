use Rattle.std.proofs.Common.{map}
use Rattle.mrp_plan.specs.Progress.{IsPlannedTo}
use Rattle.mrp_plan.proofs.fitting.fits.Given as goal

-- the plan obeys the rules at the first k pairs
abbrev pub invariant-loop-k : goal.invariant-loop-k
invariant-loop-k l = IsPlannedTo l.net.network l.net.needs (map (λ x. x.0) l.order) l.k l.plan
