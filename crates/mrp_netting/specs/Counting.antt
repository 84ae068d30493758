-- Netting one pair: the sums that tell which receipts are counted in a period.
use Rattle.std.specs.Prelude.{◌≡◌, ℕ, ◌+◌, sum, take, zero, suc}
use Rattle.mrp_netting.specs.declared.counting.Sums.{Sums}
use Rattle.mrp_netting.specs.PlanningData.{PairData, short, had_before}

abbrev pub short_before : PairData → ℕ → ℕ
short_before d zero = 0
short_before d (suc t) = short d t

-- these are the sums of the periods before t
pub record AreSums (d : PairData) (t : ℕ) (sums : Sums) : Type 0 where
  pub came : sums.came ≡ sum (take t d.receipts)
  pub could : sums.could ≡ sum (take (t + d.policy.sooner) d.receipts)
  pub asked : sums.asked ≡ d.params.safety + sum (take (t + d.policy.cover) d.gross)
  pub has : sums.has ≡ d.params.on_hand + sum (take t d.arrivals) + sum (take t d.firm_due)
  pub lacked : sums.lacked ≡ short_before d t
  pub counted : sums.counted ≡ had_before d t
