use Rattle.std.proofs.Common.{◌≡◌, ℕ, ◌+◌, ◌<◌, length, slice_index, sum, take}
use Rattle.mrp_advice.specs.Lacking.{lack_of_stock}
use Rattle.mrp_advice.proofs.lacks.find_lack_of_stock.Given as goal

-- what is asked before this period, and what the periods before it lack
abbrev pub invariant-periods : goal.invariant-periods
invariant-periods l = record {
  asked : l.asked ≡ l.fn.params.safety + sum (take (l.t + l.cover) l.gross);
  done : (k : ℕ) → k < l.t → slice_index l.lacks k ≡ lack_of_stock l.fn.params l.cover l.gross k;
  size : length l.lacks ≡ length l.gross;
}
