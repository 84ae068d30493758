use Rattle.std.proofs.Common.{◌≡◌, ℕ, ◌<◌, slice_index}
use Rattle.mrp_netting.specs.Counting.{AreSums}
use Rattle.mrp_netting.specs.PlanningData.{incoming_at}
use Rattle.mrp_netting.specs.PlanningBound.{data_of}
use Rattle.mrp_netting.proofs.matching.has_receipts_counted.Given as goal

-- the sums, and the periods before t have what comes in
abbrev pub invariant-loop-t : goal.invariant-loop-t
invariant-loop-t l = record {
  sums : AreSums (data_of l.given l.gross) l.t l.sums;
  same : (k : ℕ) → k < l.t → slice_index l.incoming k ≡ incoming_at (data_of l.given l.gross) k;
}
