-- Netting one pair: receipts that are counted by each period, and what comes in.
use Rattle.std.specs.Prelude.{◌≡◌, ℕ, ◌+◌, ◌-◌, ◌≤◌, ◌<◌, max, sum, take, length, slice_index, zero, suc}
use Rattle.std.proofs.Common.{arith, refl}
use Rattle.mrp_qty.specs.declared.quantity.TheConstants.{MOST}
use Rattle.mrp_qty.proofs.RangeLaws.{sum_take-suc}
use Rattle.mrp_netting.specs.PlanningData.{PairData, due, lack, short, had, had_before, incoming_at, incoming_row}
use Rattle.mrp_netting.specs.PlanningBound.{IsWithinData}
use Rattle.mrp_netting.specs.PlanningLaws.{ReceiptsAreCounted}
use Rattle.mrp_netting.proofs.Compared.{row_reads}
use Rattle.mrp_netting.proofs.RowSums.{sum_take-le, sum_take-all, sum_take-most}

pub short-zero : (d : PairData) → short d zero ≡ lack d zero
unfolding short
short-zero d = refl

pub short-suc : (d : PairData) (t : ℕ) → short d (suc t) ≡ max (short d t) (lack d (suc t))
unfolding short
short-suc d t = refl

pub incoming_at-is : (d : PairData) (t : ℕ) → incoming_at d t ≡ (had d t - had_before d t) + slice_index d.arrivals t + slice_index d.firm_due t
unfolding incoming_at
incoming_at-is d t = refl

-- a lack is never above what is short
pub lack-le-short : (d : PairData) (t : ℕ) → lack d t ≤ short d t
lack-le-short d zero = omega (arith, short-zero d)
lack-le-short d (suc t) = omega (arith, short-suc d t)

pub had-le : (d : PairData) (t : ℕ) → had d t ≤ due d (t + d.policy.sooner)
had-le d t = omega (arith, sum_take-le d.receipts (suc t) (suc (t + d.policy.sooner)) (omega arith))

pub had-rises : (d : PairData) (t : ℕ) → had d t ≤ had d (suc t)
had-rises d t =
    omega (
      arith,
      short-suc d t,
      sum_take-le d.receipts (suc t) (suc (suc t)) (omega arith),
      sum_take-le d.receipts (suc (t + d.policy.sooner)) (suc (suc t + d.policy.sooner)) (omega arith),
    )

pub had_before-le : (d : PairData) (t : ℕ) → had_before d t ≤ had d t
had_before-le d zero = omega arith
had_before-le d (suc t) = had-rises d t

pub had-all : (d : PairData) (t : ℕ) → length d.receipts ≤ suc t → had d t ≡ sum d.receipts
had-all d t last =
    omega (
      arith,
      sum_take-all d.receipts (suc t) last,
      sum_take-all d.receipts (suc (t + d.policy.sooner)) (omega arith),
    )

pub are_counted : ReceiptsAreCounted
are_counted d is = record {
  in_time = λ t. omega arith;
  soonest = λ t. had-le d t;
  rises = λ t. had-rises d t;
  all = λ t last. had-all d t (omega (arith, is.receipts));
}

pub incoming_row-at : (d : PairData) (t : ℕ) → t < length d.gross → slice_index (incoming_row d) t ≡ incoming_at d t
incoming_row-at d t within = row_reads (incoming_at d) (incoming_row d) (length d.gross) t refl within

-- what comes in before t: the receipts counted by then, what arrives and what comes from firm planned orders
pub incoming-sum : (d : PairData) (t : ℕ) → t ≤ length d.gross
    → sum (take t (incoming_row d)) ≡ had_before d t + sum (take t d.arrivals) + sum (take t d.firm_due)
incoming-sum d zero within = refl
incoming-sum d (suc t) within =
    omega (
      arith,
      incoming-sum d t (omega arith),
      incoming_row-at d t (omega arith),
      incoming_at-is d t,
      had_before-le d t,
      sum_take-suc (incoming_row d) t,
      sum_take-suc d.arrivals t,
      sum_take-suc d.firm_due t,
    )

had_before-most : (d : PairData) (t : ℕ) → had_before d t ≤ sum d.receipts
had_before-most d zero = omega arith
had_before-most d (suc t) =
    let s = suc (t + d.policy.sooner) in
    let more = length d.receipts + s in
    omega (arith, had-le d t, sum_take-le d.receipts s more (omega arith), sum_take-all d.receipts more (omega arith))

pub incoming-le : (d : PairData) (t : ℕ) → t ≤ length d.gross
    → sum (take t (incoming_row d)) ≤ sum d.receipts + sum d.arrivals + sum d.firm_due
incoming-le d t within =
    omega (arith, incoming-sum d t within, had_before-most d t, sum_take-most d.arrivals t, sum_take-most d.firm_due t)

pub incoming_at-le : (d : PairData) (t : ℕ) → IsWithinData d → t < length d.gross → incoming_at d t ≤ MOST
incoming_at-le d t is within =
    omega (arith, incoming-le d (suc t) within, sum_take-suc (incoming_row d) t, incoming_row-at d t within, is.total)
