use Rattle.std.proofs.Common.{◌≡◌, ℕ, ◌<◌, slice_index}
use Rattle.mrp_netting.specs.PlanningData.{incoming_at}
use Rattle.mrp_netting.specs.PlanningBound.{data_of}
use Rattle.mrp_netting.proofs.matching.has_incoming_when_due.Given as goal

-- the periods before t have what comes in
abbrev pub invariant-loop-t : goal.invariant-loop-t
invariant-loop-t l = (k : ℕ) → k < l.t → slice_index l.incoming k ≡ incoming_at (data_of l.given l.gross) k
