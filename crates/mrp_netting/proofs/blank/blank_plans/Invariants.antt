use Rattle.std.proofs.Common.{◌≡◌}
use Rattle.std.specs.Prelude.{replicate}
use Rattle.mrp_netting.specs.Plan.{nothing_planned}
use Rattle.mrp_netting.proofs.blank.blank_plans.Given as goal

abbrev pub invariant-loop-place : goal.invariant-loop-place
invariant-loop-place l = l.plans.items ≡ replicate l.place (nothing_planned l.horizon)
