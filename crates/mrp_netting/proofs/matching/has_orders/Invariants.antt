use Rattle.std.proofs.Common.{◌≡◌, ℕ, ◌<◌, slice_index, suc}
use Rattle.mrp_netting.specs.PlanningData.{order_at, balance_before}
use Rattle.mrp_netting.specs.PlanningBound.{data_of}
use Rattle.mrp_netting.proofs.matching.has_orders.Given as goal

-- the balance before the period, and both rows are the plan's as far as the periods before it
abbrev pub invariant-loop-t : goal.invariant-loop-t
invariant-loop-t l = record {
  before : l.before ≡ balance_before (data_of l.given l.gross) l.t;
  order : (k : ℕ) → k < l.t → slice_index l.order k ≡ order_at (data_of l.given l.gross) k;
  available : (k : ℕ) → k < l.t → slice_index l.available k ≡ balance_before (data_of l.given l.gross) (suc k);
}
