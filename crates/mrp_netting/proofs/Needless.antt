-- Netting one pair: open orders that aren't needed change no planned order in its plan.
use Rattle.std.specs.Prelude.{◌≡◌, ℕ, ◌+◌, ◌-◌, ◌≤◌, ◌<◌, ◌==◌, ◌⊎◌, if◌then◌else◌, min, max, List, length, sum, sum_by, take, zero, suc}
use Rattle.std.specs.List.{range_with_len}
use Rattle.std.proofs.Common.{arith, refl, sym, ap, ◌∙◌, subst, ⊎_elim, inl, inr}
use Rattle.std.proofs.lemmas.Bool.{cases_lt}
use Rattle.std.proofs.lemmas.List.FromFn.{length-map-range_with_len}
use Rattle.mrp_lot.specs.declared.rule.Rule.{Rule}
use Rattle.mrp_lot.specs.declared.rule.Rule.TheVariants.{LotForLot, Fixed, Periods, MinMultiple}
use Rattle.mrp_lot.specs.Lot.{least_multiple_of}
use Rattle.mrp_qty.proofs.RangeLaws.{map-range-same, sum_by-range-suc}
use Rattle.mrp_netting.specs.declared.params.PairParams.{PairParams}
use Rattle.mrp_netting.specs.declared.planning_data.Policy.{Policy}
use Rattle.mrp_netting.specs.PlanningData.{PairData, due, lack, short, had, incoming_at, incoming_row, need, greatest, lot_for, made_up, balance_before}
use Rattle.mrp_netting.specs.PlanningData.{order_at, one}
use Rattle.mrp_netting.specs.PlanningBound.{IsWithinData}
use Rattle.mrp_netting.specs.OpenOrders.{others, IsReceiptNeeded, IsOtherNeeded, IsWithout, AreNeedless, NeededReceiptsAreCounted, NeedlessOrdersChangeNothing}
use Rattle.mrp_netting.proofs.Greatest.{greatest-zero, greatest-suc}
use Rattle.mrp_netting.proofs.ReceiptLaws.{short-zero, short-suc, incoming-sum, lack-le-short}
use Rattle.mrp_netting.proofs.RowSums.{sum_take-le, sum_take-most, sum_take-split, sum_from-past}
use Rattle.mrp_netting.proofs.DataLaws.{order_at-is, balance_before-sum}
use Rattle.mrp_netting.proofs.DataRows.{one-order}

-- what is short by t is a lack of a period up to t
short-at : (d : PairData) (t : ℕ) → (s : ℕ) × s ≤ t × (short d t ≤ lack d s)
short-at d zero = (zero, omega arith, omega (arith, short-zero d))
short-at d (suc t) =
    let before = short-at d t in
    ⊎_elim
    (λ (more : short d t < lack d (suc t)). (suc t, omega arith, omega (arith, short-suc d t)))
    (λ (less : lack d (suc t) ≤ short d t). (before.0, omega (arith, before.1), omega (arith, before.2, short-suc d t)))
    (cases_lt (short d t) (lack d (suc t)))

short-ge : (d : PairData) (s t : ℕ) → s ≤ t → lack d s ≤ short d t
short-ge d s zero within = let same : s ≡ zero = omega arith in omega (arith, ap (lack d) same, short-zero d)
short-ge d s (suc t) within =
    ⊎_elim
    (λ (sooner : s < suc t). omega (arith, short-ge d s t (omega arith), short-suc d t))
    (λ (now : suc t ≤ s). let same : s ≡ suc t = omega arith in omega (arith, ap (lack d) same, short-suc d t))
    (cases_lt s (suc t))

pub needed_receipts_are_counted : NeededReceiptsAreCounted
needed_receipts_are_counted d before t = (
  λ counted. ⊎_elim
      (λ (came : before < due d t). inl came)
      (λ (later : due d t ≤ before).
      let at = short-at d t in
      inr (omega arith, (at.0, at.1, omega (arith, at.2))))
      (cases_lt before (due d t)),
  λ is. ⊎_elim (λ (came : before < due d t). omega arith)
      (λ (sooner : before < due d (t + d.policy.sooner) × ((s : ℕ) × s ≤ t × IsReceiptNeeded d before s)).
      omega (arith, sooner.0, sooner.1.2, short-ge d sooner.1.0 t sooner.1.1))
      is,
)

-- orders before t
abbrev ordered : PairData → ℕ → ℕ
ordered d t = sum_by (order_at d) (range_with_len 0 t)

-- the need of the periods from t on is what the last of them lacks beyond the receipts counted by it and the orders before t
need-is : (d : PairData) (t m : ℕ) → IsWithinData d → t + m < length d.gross
    → need d (balance_before d t) t (suc m) ≡ (lack d (t + m) - had d (t + m)) - ordered d t
need-is d t m is within =
    let gross = sum_take-split d.gross t (suc m + d.policy.cover) (suc (t + m) + d.policy.cover) (omega arith) in
    let come = sum_take-split (incoming_row d) t (suc m) (suc (t + m)) (omega arith) in
    omega (arith, gross, come, balance_before-sum d t is (omega arith), incoming-sum d (suc (t + m)) (omega arith))

-- behind the horizon there is no more
need-past : (d : PairData) (before t n : ℕ) → length d.gross ≤ t + n
    → need d before t n ≡ need d before t (length d.gross - t)
need-past d before t n past =
    let all = length d.gross - t in
    let size = length-map-range_with_len (incoming_at d) 0 (length d.gross) in
    omega (
      arith,
      sum_from-past d.gross t (all + d.policy.cover) (n + d.policy.cover) (omega arith) (omega arith),
      sum_from-past (incoming_row d) t all n (omega (arith, size)) (omega arith),
    )

-- a lot rule looks at the needs of one period and more
greatest-same : (f g : ℕ → ℕ) (n : ℕ) → ((k : ℕ) → f (suc k) ≡ g (suc k)) → greatest f n ≡ greatest g n
greatest-same f g zero same = greatest-zero f ∙ sym (greatest-zero g)
greatest-same f g (suc n) same = omega (arith, greatest-suc f n, greatest-suc g n, greatest-same f g n same, same n)

lot_for-same : (rule : Rule) (f g : ℕ → ℕ) → ((k : ℕ) → f (suc k) ≡ g (suc k)) → lot_for rule f ≡ lot_for rule g
lot_for-same LotForLot f g same = same 0
lot_for-same (Fixed q) f g same = ap (least_multiple_of q) (same 0)
lot_for-same (Periods k) f g same = greatest-same f g k same
lot_for-same (MinMultiple m k) f g same = ap (λ (n : ℕ). least_multiple_of k (max n m)) (same 0)

-- an order by its net requirement and its lot
abbrev order_by : Policy → ℕ → ℕ → ℕ
order_by policy net lot = if net == 0 then 0 else made_up policy lot

-- pairs of which each period lacks as much beyond the receipts that are counted by it
module _ (d : PairData) (receipts arrivals firm_start firm_due : List ℕ) (is : IsWithinData d) where
  abbrev pub with_orders : PairData
  with_orders = record d { receipts = receipts; arrivals = arrivals; firm_start = firm_start; firm_due = firm_due }

  module _ (with_is : IsWithinData with_orders)
      (same : (s : ℕ) → s < length d.gross → lack with_orders s - had with_orders s ≡ lack d s - had d s) where
    same_need : (t k : ℕ) → t < length d.gross → ordered with_orders t ≡ ordered d t
        → need with_orders (balance_before with_orders t) t (suc k) ≡ need d (balance_before d t) t (suc k)
    same_need t k within so_far =
        ⊎_elim
        (λ (here : t + k < length d.gross). omega (arith, need-is with_orders t k with_is here, need-is d t k is here, same (t + k) here, so_far))
        (λ (past : length d.gross ≤ t + k).
        let m = length d.gross - suc t in
        let last : length d.gross - t ≡ suc m = omega arith in
        need-past with_orders (balance_before with_orders t) t (suc k) (omega arith)
        ∙ ap (need with_orders (balance_before with_orders t) t) last
        ∙ omega (arith, need-is with_orders t m with_is (omega arith), need-is d t m is (omega arith), same (t + m) (omega arith), so_far)
        ∙ ap (need d (balance_before d t) t) (sym last)
        ∙ sym (need-past d (balance_before d t) t (suc k) (omega arith)))
        (cases_lt (t + k) (length d.gross))

    same_order : (t : ℕ) → t < length d.gross → ordered with_orders t ≡ ordered d t → order_at with_orders t ≡ order_at d t
    same_order t within so_far =
        let e = with_orders in
        let net = same_need t 0 within so_far in
        let lot = lot_for-same d.params.rule (need e (balance_before e t) t) (need d (balance_before d t) t) (λ k. same_need t k within so_far) in
        order_at-is e t
        ∙ ap (λ (n : ℕ). order_by d.policy n (lot_for d.params.rule (need e (balance_before e t) t))) net
        ∙ ap (λ (q : ℕ). order_by d.policy (need d (balance_before d t) t 1) q) lot
        ∙ sym (order_at-is d t)

    same_ordered : (t : ℕ) → t ≤ length d.gross → ordered with_orders t ≡ ordered d t
    same_ordered zero within = refl
    same_ordered (suc t) within =
        let so_far = same_ordered t (omega arith) in
        omega (
          arith,
          so_far,
          same_order t (omega arith) so_far,
          sum_by-range-suc (order_at with_orders) t,
          sum_by-range-suc (order_at d) t,
        )

    pub same_orders : (one with_orders).order ≡ (one d).order
    same_orders =
        one-order with_orders
        ∙ map-range-same (order_at with_orders) (order_at d) (length d.gross) (λ t h. same_order t h (same_ordered t (omega arith)))
        ∙ sym (one-order d)

-- what a pair lacks without open orders that aren't needed
module _ (d : PairData) (receipts arrivals firm_start firm_due : List ℕ) (is : IsWithinData d) (most rest : ℕ)
    (without : IsWithout d (with_orders d receipts arrivals firm_start firm_due is) most rest) (none : AreNeedless d most rest) where
  abbrev fewer : PairData
  fewer = with_orders d receipts arrivals firm_start firm_due is

  -- receipts that are short or count sooner cover what is lacked for want of the others
  lack-le : (t : ℕ) → t < length d.gross → lack fewer t ≤ lack d t ⊎ lack fewer t ≤ min (due d (t + d.policy.sooner)) (short d t)
  lack-le t within =
      ⊎_elim
      (λ (dropped : rest < others d t). ⊎_elim
      (λ (all : sum d.arrivals + sum d.firm_due ≤ rest).
      absurd (omega (arith, sum_take-most d.arrivals (suc t), sum_take-most d.firm_due (suc t))))
      (λ (needless : (k : ℕ) → k < length d.gross → IsOtherNeeded d rest k → ⊥).
      ⊎_elim
      (λ (needed : d.params.on_hand + min (due d (t + d.policy.sooner)) (short d t) + rest < d.params.safety + sum (take (suc t + d.policy.cover) d.gross)).
      absurd (needless t within needed))
      (λ (enough : d.params.safety + sum (take (suc t + d.policy.cover) d.gross) ≤ d.params.on_hand + min (due d (t + d.policy.sooner)) (short d t) + rest).
      inr (omega (arith, without.others_end t)))
      (cases_lt _ _))
      none.1)
      (λ (kept : others d t ≤ rest). inl (omega (arith, without.others_end t)))
      (cases_lt rest (others d t))

  lack-ge : (t : ℕ) → lack d t ≤ lack fewer t
  lack-ge t = omega (arith, without.others_end t)

  same_short : (t : ℕ) → t < length d.gross → short fewer t ≡ short d t
  same_short zero within = omega (arith, short-zero fewer, short-zero d, lack-ge zero, lack-le zero within)
  same_short (suc t) within =
      omega (arith, short-suc fewer t, short-suc d t, same_short t (omega arith), lack-ge (suc t), lack-le (suc t) within)

  -- receipts that could be counted or are needed are kept
  kept_receipts : (t : ℕ) → t < length d.gross → due d (t + d.policy.sooner) ≤ most ⊎ short d t ≤ most
  kept_receipts t within =
      ⊎_elim
      (λ (all : sum d.receipts ≤ most). inl (omega (arith, sum_take-most d.receipts (suc (t + d.policy.sooner)))))
      (λ (needless : (k : ℕ) → k < length d.gross → IsReceiptNeeded d most k → ⊥).
      let at = short-at d t in
      ⊎_elim
      (λ (needed : most < lack d at.0). absurd (needless at.0 (omega (arith, at.1)) needed))
      (λ (enough : lack d at.0 ≤ most). inr (omega (arith, at.2)))
      (cases_lt most (lack d at.0)))
      none.0

  same_lacks : (t : ℕ) → t < length d.gross → lack fewer t - had fewer t ≡ lack d t - had d t
  same_lacks t within =
      omega (
        arith,
        same_short t within,
        lack-ge t,
        lack-le t within,
        lack-le-short d t,
        kept_receipts t within,
        without.receipts_end t,
        without.receipts_end (t + d.policy.sooner),
        sum_take-le d.receipts (suc t) (suc (t + d.policy.sooner)) (omega arith),
      )

pub needless_orders_change_nothing : NeedlessOrdersChangeNothing
needless_orders_change_nothing d e receipts rest is e_is without none =
    let w : PairData = with_orders d e.receipts e.arrivals e.firm_start e.firm_due is in
    let moved : w ≡ e =
    ap (λ (p : PairParams). record e { params = p; policy = d.policy; gross = d.gross }) (sym without.params)
    ∙ ap (λ (p : Policy). record e { policy = p; gross = d.gross }) (sym without.policy)
    ∙ ap (λ (row : List ℕ). record e { gross = row }) (sym without.gross) in
    let w_is : IsWithinData w = subst IsWithinData (sym moved) e_is in
    let w_without : IsWithout d w receipts rest = record {
      params = refl;
      policy = refl;
      gross = refl;
      receipts_end = without.receipts_end;
      others_end = without.others_end;
    } in
    ap (λ (p : PairData). (one p).order) (sym moved)
    ∙ same_orders d e.receipts e.arrivals e.firm_start e.firm_due is w_is
    (same_lacks d e.receipts e.arrivals e.firm_start e.firm_due is receipts rest w_without none)
