use Rattle.std.proofs.Common.{◌≡◌, ℕ, ◌<◌, length}
use Rattle.mrp_master_data.specs.Table.{horizon}
use Rattle.mrp_net.specs.Plan.{rows_at}
use Rattle.mrp_plan.proofs.fitting.has_periods.Given as goal

-- the plans of the pairs before x have the periods
abbrev pub invariant-loop-x : goal.invariant-loop-x
invariant-loop-x l = (k : ℕ) → k < l.x → length (rows_at l.plan k).gross ≡ horizon l.network
