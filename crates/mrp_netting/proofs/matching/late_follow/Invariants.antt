use Rattle.std.proofs.Common.{◌≡◌, ◌≤◌, length, take}
use Rattle.mrp_netting.specs.PlanRows.{late_periods}
use Rattle.mrp_netting.specs.Plan.{late_orders_in}
use Rattle.mrp_netting.proofs.matching.late_follow.Given as goal

-- the late orders found so far are those of the periods before t
abbrev pub invariant-loop-t : goal.invariant-loop-t
invariant-loop-t l = record {
  found : take l.found l.plan.late ≡ late_orders_in l.lead l.plan.order (late_periods l.lead l.plan.order l.t);
  there : l.found ≤ length l.plan.late;
  few : l.found ≤ l.t;
}
