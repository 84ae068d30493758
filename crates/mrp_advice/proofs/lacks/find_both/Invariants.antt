use Rattle.std.proofs.Common.{◌≡◌, ℕ, ◌<◌, true, false, length, slice_index}
use Rattle.mrp_netting.specs.PlanningBound.{data_of}
use Rattle.mrp_advice.specs.Lacking.{HaveRoom, lacking}
use Rattle.mrp_advice.proofs.LackFacts.{IsCountTo}
use Rattle.mrp_advice.proofs.lacks.find_both.Given as goal

-- the running sums, and what the periods before this one lack
abbrev pub invariant-periods : goal.invariant-periods
invariant-periods l = record {
  count : IsCountTo (data_of l.given l.gross) l.t l.could l.asked l.has l.short;
  receipts : (k : ℕ) → k < l.t → slice_index l.lacks.receipts k ≡ lacking (data_of l.given l.gross) true k;
  others : (k : ℕ) → k < l.t → slice_index l.lacks.others k ≡ lacking (data_of l.given l.gross) false k;
  room : HaveRoom (length l.gross) l.lacks;
}
