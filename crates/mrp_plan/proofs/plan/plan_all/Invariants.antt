use Rattle.std.proofs.Common.{◌≡◌, length, map}
use Rattle.mrp_master_data.specs.Table.{horizon}
use Rattle.mrp_plan.specs.Progress.{IsPlannedTo}
use Rattle.mrp_plan.proofs.plan.plan_all.Given as goal

-- the first k pairs are planned
abbrev pub invariant-loop-k : goal.invariant-loop-k
invariant-loop-k l = record {
  planned : IsPlannedTo l.net.network l.net.needs (map (λ x. x.0) l.order) l.k l.pairs.items;
  gross_room : length l.gross ≡ horizon l.net.network;
}
