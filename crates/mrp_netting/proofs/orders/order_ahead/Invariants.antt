use Rattle.std.proofs.Common.{◌≡◌, ℕ, ◌<◌, length, slice_index, suc, sum, take, drop}
use Rattle.mrp_netting.specs.PlanningData.{order_at, balance_before}
use Rattle.mrp_netting.specs.PlanningBound.{data_of}
use Rattle.mrp_netting.proofs.orders.order_ahead.Given as goal

-- the balance before the period, and both rows as far as the periods before it
abbrev pub invariant-loop-t : goal.invariant-loop-t
invariant-loop-t l = record {
  before : l.before ≡ balance_before (data_of l.given l.gross) l.t;
  ahead : l.ahead ≡ sum (take l.given.policy.cover (drop l.t l.gross));
  order_len : length l.order ≡ length l.gross;
  available_len : length l.available ≡ length l.gross;
  order : (k : ℕ) → k < l.t → slice_index l.order k ≡ order_at (data_of l.given l.gross) k;
  available : (k : ℕ) → k < l.t → slice_index l.available k ≡ balance_before (data_of l.given l.gross) (suc k);
}
