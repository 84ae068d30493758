-- Netting one pair: needs, orders and balances from one record of planning data.
use Rattle.std.specs.Prelude.{◌≡◌, ℕ, ◌+◌, ◌-◌, ◌≤◌, ◌<◌, ◌==◌, max}
use Rattle.std.specs.Prelude.{length, sum, sum_by, take, drop, slice_index, zero, suc}
use Rattle.std.specs.List.{range_with_len}
use Rattle.std.proofs.Common.{arith, refl, ◌∙◌, ⊎_elim, eq-eqb, ne_eqb}
use Rattle.std.proofs.lemmas.Bool.{cases_lt, cond-true, cond-false}
use Rattle.std.proofs.lemmas.List.Sums.{sum_by-take-le, sum_by-take-drop}
use Rattle.mrp_lot.specs.Lot.{IsRule}
use Rattle.mrp_lot.proofs.LotLaws.{min_multiple-is_least}
use Rattle.mrp_qty.proofs.RangeLaws.{sum_take-suc, sum_drop_take-one, sum_by-range-suc}
use Rattle.mrp_netting.specs.PlanRows.{sum_from}
use Rattle.mrp_netting.specs.PlanningData.{PairData, due, had, incoming_at, incoming_row, need, lot_for, made_up}
use Rattle.mrp_netting.specs.PlanningData.{order_after, available_after, balance_before, order_at}
use Rattle.mrp_netting.specs.PlanningBound.{IsWithinData, order_quantities}
use Rattle.mrp_netting.specs.PlanningLaws.{IsOrder}
use Rattle.mrp_netting.proofs.Lots.{lot_for-ge, lot_for-le, made_up-ge, made_up-le}
use Rattle.mrp_netting.proofs.RowSums.{sum_take-split, sum_from-first}
use Rattle.mrp_netting.proofs.ReceiptLaws.{incoming_row-at, incoming-sum, incoming-le, lack-le-short, had-le}

pub balance_before-zero : (d : PairData) → balance_before d zero ≡ d.params.on_hand
unfolding balance_before
balance_before-zero d = refl

pub balance_before-suc : (d : PairData) (t : ℕ) → balance_before d (suc t) ≡ available_after d (balance_before d t) t
unfolding balance_before
balance_before-suc d t = refl

pub order_at-is : (d : PairData) (t : ℕ) → order_at d t ≡ order_after d (balance_before d t) t
unfolding order_at
order_at-is d t = refl

-- without a need nothing is ordered, and with one the lot, made up
pub order_after-none : (d : PairData) (before t : ℕ) → need d before t 1 ≡ 0 → order_after d before t ≡ 0
order_after-none d before t none =
    cond-true (need d before t 1 == 0) 0 (made_up d.policy (lot_for d.params.rule (need d before t))) (eq-eqb (need d before t 1) 0 none)

pub order_after-some : (d : PairData) (before t : ℕ) → 0 < need d before t 1
    → order_after d before t ≡ made_up d.policy (lot_for d.params.rule (need d before t))
order_after-some d before t some =
    cond-false (need d before t 1 == 0) 0 (made_up d.policy (lot_for d.params.rule (need d before t)))
    (ne_eqb (need d before t 1) 0 (λ e. absurd (omega arith)))

pub is_order : (d : PairData) (t : ℕ) → IsOrder d t (order_at d t)
is_order d t =
    let before = balance_before d t in
    record {
      none = λ h. order_at-is d t ∙ order_after-none d before t h;
      some = λ h.
          rw (order_at-is d t ∙ order_after-some d before t h)
          (min_multiple-is_least d.policy.least (max d.policy.multiple 1) (lot_for d.params.rule (need d before t)) 0 (omega arith));
    }

-- an order covers the need
pub order_after-ge : (d : PairData) (before t : ℕ) → IsRule d.params.rule → need d before t 1 ≤ order_after d before t
order_after-ge d before t is =
    let needs = need d before t in
    ⊎_elim
    (λ (some : 0 < need d before t 1). omega (
      arith,
      order_after-some d before t some,
      made_up-ge d.policy (lot_for d.params.rule needs),
      lot_for-ge d.params.rule needs is,
    ))
    (λ (none : need d before t 1 ≤ 0). omega arith)
    (cases_lt 0 (need d before t 1))

-- no need is above that of all periods to come
pub need-le : (d : PairData) (before t n : ℕ) → need d before t n ≤ (d.params.safety + sum (drop t d.gross)) - before
need-le d before t n = omega (arith, sum_by-take-le (λ (x : ℕ). x) (drop t d.gross) (n + d.policy.cover))

-- with the balance before it, an order is no more than safety, its quantities and the gross requirements from there on
pub order_after-le : (d : PairData) (before t : ℕ) → IsRule d.params.rule
    → order_after d before t ≤ (d.params.safety + order_quantities d + sum (drop t d.gross)) - before
order_after-le d before t is =
    let needs = need d before t in
    let most = (d.params.safety + sum (drop t d.gross)) - before in
    ⊎_elim
    (λ (some : 0 < need d before t 1). omega (
      arith,
      order_after-some d before t some,
      made_up-le d.policy (lot_for d.params.rule needs),
      lot_for-le d.params.rule needs most is (λ k. need-le d before t k),
      need-le d before t 1,
    ))
    (λ (none : need d before t 1 ≤ 0). let ordered = order_after-none d before t (omega arith) in omega (arith, ordered))
    (cases_lt 0 (need d before t 1))

-- what comes in in the first period
come_first : (d : PairData) (t : ℕ) → t < length d.gross → sum_from (incoming_row d) t 1 ≡ incoming_at d t
come_first d t within = omega (arith, sum_drop_take-one (incoming_row d) t, incoming_row-at d t within)

-- nothing is cut off: the balance and what comes in and is ordered cover safety and the gross requirements of the
-- period and of those of cover
pub order_covers : (d : PairData) (t : ℕ) → IsWithinData d → t < length d.gross
    → d.params.safety + slice_index d.gross t + sum_from d.gross (suc t) d.policy.cover ≤ balance_before d t + incoming_at d t + order_at d t
order_covers d t is within =
    omega (
      arith,
      order_after-ge d (balance_before d t) t is.rule,
      order_at-is d t,
      come_first d t within,
      sum_from-first d.gross t d.policy.cover (1 + d.policy.cover) (omega arith),
    )

pub balance_before-next : (d : PairData) (t : ℕ) → IsWithinData d → t < length d.gross
    → balance_before d (suc t) + slice_index d.gross t ≡ balance_before d t + incoming_at d t + order_at d t
balance_before-next d t is within = omega (arith, order_covers d t is within, balance_before-suc d t, order_at-is d t)

pub available-ge : (d : PairData) (t : ℕ) → IsWithinData d → t < length d.gross
    → d.params.safety + sum_from d.gross (suc t) d.policy.cover ≤ balance_before d (suc t)
available-ge d t is within = omega (arith, order_covers d t is within, balance_before-next d t is within)

-- what was there and came in and was ordered is there still or was required
pub balance_before-sum : (d : PairData) (t : ℕ) → IsWithinData d → t ≤ length d.gross
    → balance_before d t + sum (take t d.gross) ≡ d.params.on_hand + sum (take t (incoming_row d)) + sum_by (order_at d) (range_with_len 0 t)
balance_before-sum d zero is within = omega (arith, balance_before-zero d)
balance_before-sum d (suc t) is within =
    omega (
      arith,
      balance_before-next d t is (omega arith),
      balance_before-sum d t is (omega arith),
      sum_take-suc d.gross t,
      sum_take-suc (incoming_row d) t,
      incoming_row-at d t (omega arith),
      sum_by-range-suc (order_at d) t,
    )

-- the orders together are at most safety, the order quantities and all gross requirements
pub orders-le : (d : PairData) (t : ℕ) → IsWithinData d → t ≤ length d.gross
    → sum_by (order_at d) (range_with_len 0 t) ≤ d.params.safety + order_quantities d + sum d.gross
orders-le d zero is within = omega arith
orders-le d (suc t) is within =
    omega (
      arith,
      orders-le d t is (omega arith),
      balance_before-sum d t is (omega arith),
      order_after-le d (balance_before d t) t is.rule,
      order_at-is d t,
      sum_by-range-suc (order_at d) t,
      sum_by-take-drop (λ (x : ℕ). x) d.gross t,
    )

-- no balance is above all quantities together
pub balance_before-le : (d : PairData) (t : ℕ) → IsWithinData d → t ≤ length d.gross
    → balance_before d t
    ≤ d.params.on_hand + sum d.receipts + sum d.arrivals + sum d.firm_due + sum d.gross + d.params.safety + order_quantities d
balance_before-le d t is within =
    omega (arith, balance_before-sum d t is within, orders-le d t is within, incoming-le d t within)

-- while a receipt could still be counted there is no need
need-none : (d : PairData) (t : ℕ) → IsWithinData d → t < length d.gross → had d t < due d (t + d.policy.sooner)
    → need d (balance_before d t) t 1 ≡ 0
need-none d t is within could =
    omega (
      arith,
      lack-le-short d t,
      balance_before-sum d t is (omega arith),
      incoming-sum d (suc t) within,
      sum_take-suc (incoming_row d) t,
      sum_drop_take-one (incoming_row d) t,
      sum_take-split d.gross t (1 + d.policy.cover) (suc t + d.policy.cover) (omega arith),
    )

pub all_counted : (d : PairData) (t : ℕ) → IsWithinData d → t < length d.gross → 0 < order_at d t → had d t ≡ due d (t + d.policy.sooner)
all_counted d t is within ordered =
    ⊎_elim
    (λ (could : had d t < due d (t + d.policy.sooner)).
    let none = order_after-none d (balance_before d t) t (need-none d t is within could) in
    absurd (omega (arith, none, order_at-is d t)))
    (λ (all : due d (t + d.policy.sooner) ≤ had d t). omega (arith, had-le d t))
    (cases_lt (had d t) (due d (t + d.policy.sooner)))
