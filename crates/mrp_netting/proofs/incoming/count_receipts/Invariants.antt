use Rattle.std.proofs.Common.{◌≡◌, ℕ, ◌+◌, ◌≤◌, ◌<◌, length, slice_index}
use Rattle.mrp_netting.specs.Counting.{AreSums}
use Rattle.mrp_netting.specs.PlanningData.{incoming_at}
use Rattle.mrp_netting.specs.PlanningBound.{data_of}
use Rattle.mrp_netting.proofs.incoming.count_receipts.Given as goal

-- the sums, the periods before this one with their receipts, and the others without
abbrev pub invariant-loop-t : goal.invariant-loop-t
invariant-loop-t l = record {
  sums : AreSums (data_of l.given l.gross) l.t l.sums;
  done : (k : ℕ) → k < l.t → slice_index l.incoming k ≡ incoming_at (data_of l.given l.gross) k;
  rest : (k : ℕ) → l.t ≤ k → slice_index l.incoming k ≡ slice_index l.given.arrivals.now k + slice_index l.given.firm_due.now k;
  size : length l.incoming ≡ length l.gross;
}
