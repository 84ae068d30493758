-- Reach: rows that have the same pieces in so many periods.
use Rattle.std.specs.Prelude.{◌≡◌, ℕ, ◌+◌, ◌≤◌, List, sum, take, slice_index}
use Rattle.std.proofs.Common.{arith, sym, ◌∙◌}
use Rattle.mrp_qty.proofs.RangeLaws.{sum_by-range-same, sum_by-range-take}
use Rattle.mrp_netting.specs.PlanRows.{sum_from}
use Rattle.mrp_netting.proofs.RowSums.{sum_take-split}
use Rattle.mrp_reach.specs.ReachLaws.{AgreeBelow}

-- their sums up to there are the same
pub sum_take-agree : (n : ℕ) (a b : List ℕ) → AgreeBelow n a b → (k : ℕ) → k ≤ n → sum (take k a) ≡ sum (take k b)
sum_take-agree n a b same k within =
    sym (sum_by-range-take a k)
    ∙ sum_by-range-same (λ t. slice_index a t) (λ t. slice_index b t) k (λ t h. same t (omega arith))
    ∙ sum_by-range-take b k

-- and those from a period on
pub sum_from-agree : (n : ℕ) (a b : List ℕ) → AgreeBelow n a b → (t m : ℕ) → t + m ≤ n → sum_from a t m ≡ sum_from b t m
sum_from-agree n a b same t m within =
    omega (
      arith,
      sum_take-split a t m (t + m) (omega arith),
      sum_take-split b t m (t + m) (omega arith),
      sum_take-agree n a b same t (omega arith),
      sum_take-agree n a b same (t + m) within,
    )
