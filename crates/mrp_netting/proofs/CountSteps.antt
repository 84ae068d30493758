-- Netting one pair: receipts that are counted, by the step from the sums before a period to those with it.
use Rattle.std.specs.Prelude.{◌≡◌, ℕ, ◌+◌, ◌-◌, ◌≤◌, min, max, List, sum, take, slice_index, zero, suc}
use Rattle.std.proofs.Common.{arith, ap, add-one}
use Rattle.mrp_qty.proofs.RangeLaws.{sum_take-suc}
use Rattle.mrp_netting.specs.declared.counting.Sums.{Sums}
use Rattle.mrp_netting.specs.Counting.{AreSums, short_before}
use Rattle.mrp_netting.specs.PlanningData.{PairData, lack, short, had, had_before, incoming_at}
use Rattle.mrp_netting.proofs.ReceiptLaws.{short-zero, short-suc, incoming_at-is, had_before-le}
use Rattle.mrp_netting.proofs.RowSums.{sum_take-next}

short-next : (d : PairData) (t : ℕ) → short d t ≡ max (short_before d t) (lack d t)
short-next d zero = omega (arith, short-zero d)
short-next d (suc t) = short-suc d t

-- a period further in a row that is looked at ahead
ahead_next : (row : List ℕ) (t k : ℕ) → sum (take (t + 1 + k) row) ≡ sum (take (t + k) row) + slice_index row (t + k)
ahead_next row t k =
    let next = ap (λ (n : ℕ). sum (take n row)) (let e : t + 1 + k ≡ suc (t + k) = omega arith in e) in
    omega (arith, next, sum_take-suc row (t + k))

-- the sums before t, and with t
pub record IsStep (d : PairData) (t others : ℕ) (old new : Sums) : Type 0 where
  pub before : AreSums d t old
  pub come : others ≡ slice_index d.arrivals t + slice_index d.firm_due t
  pub came : new.came ≡ old.came + slice_index d.receipts t
  pub could : new.could ≡ old.could + slice_index d.receipts (t + d.policy.sooner)
  pub asked : new.asked ≡ old.asked + slice_index d.gross (t + d.policy.cover)
  pub has : new.has ≡ old.has + others
  pub lacked : new.lacked ≡ max (new.asked - new.has) old.lacked
  pub counted : new.counted ≡ max (min new.could new.lacked) new.came

pub record IsCounted (d : PairData) (t others : ℕ) (old new : Sums) : Type 0 where
  pub next : AreSums d (t + 1) new
  pub rises : old.counted ≤ new.counted
  pub incoming : others + (new.counted - old.counted) ≡ incoming_at d t

pub count_step : (d : PairData) (t others : ℕ) (old new : Sums) → IsStep d t others old new → IsCounted d t others old new
count_step d t others old new is =
    let sums = is.before in
    let cover = ap (λ (m : ℕ). sum (take m d.gross)) (let e : suc t + d.policy.cover ≡ suc (t + d.policy.cover) = omega arith in e) in
    let due_is : new.came ≡ sum (take (suc t) d.receipts) = omega (arith, is.came, sums.came, sum_take-suc d.receipts t) in
    let ahead_is : new.could ≡ sum (take (suc (t + d.policy.sooner)) d.receipts) =
    omega (arith, is.could, sums.could, sum_take-suc d.receipts (t + d.policy.sooner)) in
    let lack_is : new.asked - new.has ≡ lack d t =
    omega (
      arith,
      is.asked,
      is.has,
      is.come,
      sums.asked,
      sums.has,
      cover,
      sum_take-suc d.gross (t + d.policy.cover),
      sum_take-suc d.arrivals t,
      sum_take-suc d.firm_due t,
    ) in
    let short_is : new.lacked ≡ short d t = omega (arith, is.lacked, lack_is, sums.lacked, short-next d t) in
    let had_is : new.counted ≡ had d t = omega (arith, is.counted, due_is, ahead_is, short_is) in
    let before = had_before-le d t in
    let past : had_before d (t + 1) ≡ had d t = ap (had_before d) (add-one t) in
    let past_short : short_before d (t + 1) ≡ short d t = ap (short_before d) (add-one t) in
    record {
      next = record {
        came = omega (arith, is.came, sums.came, sum_take-next d.receipts t);
        could = omega (arith, is.could, sums.could, ahead_next d.receipts t d.policy.sooner);
        asked = omega (arith, is.asked, sums.asked, ahead_next d.gross t d.policy.cover);
        has = omega (arith, is.has, is.come, sums.has, sum_take-next d.arrivals t, sum_take-next d.firm_due t);
        lacked = omega (arith, short_is, past_short);
        counted = omega (arith, had_is, past);
      };
      rises = omega (arith, had_is, sums.counted, before);
      incoming = omega (arith, had_is, is.come, sums.counted, incoming_at-is d t);
    }
