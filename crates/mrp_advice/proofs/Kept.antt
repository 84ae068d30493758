-- Advice: without the open orders that it says to cancel a pair's planned orders are the same.
use Rattle.std.proofs.Common.{◌≡◌, ◌∙◌, ℕ, suc, ◌+◌, ◌<◌, ◌≤◌, ◌⊎◌, ◌&&◌, Bool, true, false, cond, min, inl, inr, List, length, map, take, sum}
use Rattle.std.proofs.Common.{sym, ap, arith}
use Rattle.std.specs.Prelude.{Some}
use Rattle.std.specs.List.{filter, range_with_len, sum_by}
use Rattle.std.proofs.lemmas.Bool.{cases_lt}
use Rattle.std.proofs.lemmas.List.{take_all}
use Rattle.std.proofs.lemmas.List.FromFn.{length-map-range_with_len}
use Rattle.mrp_grouping.proofs.Kept.{sum_filter}
use Rattle.mrp_netting.specs.PlanRows.{PlanRows}
use Rattle.mrp_netting.specs.OpenOrders.{AreNeedless, IsOtherNeeded, IsReceiptNeeded, IsWithout}
use Rattle.mrp_netting.specs.PlanningData.{PairData, due}
use Rattle.mrp_netting.proofs.Needless.{needless_orders_change_nothing}
use Rattle.mrp_netting.proofs.RowSums.{sum_take-all}
use Rattle.mrp_master_data.specs.Table.{Table, horizon}
use Rattle.mrp_net.specs.FirmOrders.{firm_due}
use Rattle.mrp_net.specs.Plan.{pair_data}
use Rattle.mrp_net.specs.Sums.{incoming}
use Rattle.mrp_net.proofs.Routing.{filter-map}
use Rattle.mrp_net.proofs.Sharing.{sum_map}
use Rattle.mrp_net.proofs.Sooner.{received_sooner-few}
use Rattle.mrp_loops.proofs.Within.{data_within}
use Rattle.mrp_advice.specs.declared.orders.OpenOrder.{OpenOrder}
use Rattle.mrp_advice.specs.AdviceLaws.{CancelledOrdersChangeNothing, IsPlannedFrom, kept}
use Rattle.mrp_advice.specs.Needed.{needed, pieces_of, there_beside}
use Rattle.mrp_advice.specs.OpenOrders.{comes_by, open_order_at, open_orders}
use Rattle.mrp_advice.proofs.Cancelled.{IsFront, by_place, keep_enough, keeps, keeps_front, passing, shorter}
use Rattle.mrp_advice.proofs.Coming.{filter_both}
use Rattle.mrp_advice.proofs.Rising.{first_by, periods_rise}
use Rattle.mrp_advice.proofs.Sorts.{others_to, pieces_is, receipts_to, weight}

-- a row that ends before n has all its pieces in the first n periods
sum_within : (row : List ℕ) (n t : ℕ) → length row ≤ n → sum (take (min n (suc t)) row) ≡ sum (take (suc t) row)
sum_within row n t end =
    elim (cases_lt t n) as (λ _. sum (take (min n (suc t)) row) ≡ sum (take (suc t) row)) [
      | inl here ↦ ap (λ (k : ℕ). sum (take k row)) (let e : min n (suc t) ≡ suc t = omega (arith, here) in e)
      | inr past ↦ sum_take-all row (min n (suc t)) (omega (arith, end, past)) ∙ sym (sum_take-all row (suc t) (omega (arith, end, past)))
    ]

module _ (N : Table) (table : List PlanRows) (x : ℕ) where
  abbrev d : PairData
  d = pair_data N table x

  abbrev orders : List OpenOrder
  orders = open_orders N x

  abbrev n : ℕ
  n = length orders

  abbrev left : List OpenOrder
  left = kept (needed d orders) orders

  abbrev by : ℕ → OpenOrder → Bool
  by t = comes_by (Some t)

  abbrev come : ℕ → ℕ → Bool
  come t i = by t (open_order_at orders i)

  -- by each period
  come_front : (s : Bool) (t : ℕ) → IsFront d.policy orders s (come t)
  come_front s t i j less within own mine yes_ = periods_rise N x i j t less within yes_

  own_receipts : (t : ℕ) → pieces_of d.policy true (filter (by t) orders) ≡ due d t
  own_receipts t =
      ap (pieces_of d.policy true) (first_by N x (horizon N) t)
      ∙ receipts_to N table x (min (horizon N) (suc t)) (omega arith)
      ∙ sum_within d.receipts (horizon N) t (received_sooner-few N x)

  own_others : (t : ℕ) → pieces_of d.policy false (filter (by t) orders) ≡ there_beside d true t
  own_others t =
      ap (pieces_of d.policy false) (first_by N x (horizon N) t)
      ∙ others_to N table x (min (horizon N) (suc t)) (omega arith)
      ∙ omega (
        arith,
        sum_within d.arrivals (horizon N) t (omega (arith, length-map-range_with_len (incoming N x) 0 (horizon N))),
        sum_within d.firm_due (horizon N) t (omega (arith, length-map-range_with_len (firm_due N x) 0 (horizon N))),
      )

  -- sums over places
  come_is : (s : Bool) (t : ℕ) → pieces_of d.policy s (filter (by t) orders) ≡ passing d.policy orders s (come t) n
  come_is s t =
      let g : OpenOrder → ℕ = λ o. cond (by t o) (weight d.policy s o) 0 in
      pieces_is d.policy s (filter (by t) orders)
      ∙ sum_filter (weight d.policy s) (by t) orders
      ∙ ap (sum_by g) (sym (take_all n orders (omega arith)))
      ∙ by_place g orders n (omega arith)

  abbrev weighs : Bool → ℕ → ℕ
  weighs s i = weight d.policy s (open_order_at orders i)

  left_is : (s : Bool) → pieces_of d.policy s left ≡ passing d.policy orders s (keeps d orders s) n
  left_is s =
      let keep : ℕ → Bool = keeps d orders s in
      pieces_is d.policy s left
      ∙ sum_map (weight d.policy s) (open_order_at orders) (filter keep (range_with_len 0 n))
      ∙ sum_filter (weighs s) keep (range_with_len 0 n)

  left_come : (s : Bool) (t : ℕ) → pieces_of d.policy s (filter (by t) left) ≡ min (pieces_of d.policy s (filter (by t) orders)) (pieces_of d.policy s left)
  left_come s t =
      let keep : ℕ → Bool = keeps d orders s in
      let places = range_with_len 0 n in
      let both : ℕ → Bool = λ i. keep i && come t i in
      let sums : pieces_of d.policy s (filter (by t) left) ≡ passing d.policy orders s both n =
      pieces_is d.policy s (filter (by t) left)
      ∙ ap (sum_by (weight d.policy s)) (filter-map (by t) (open_order_at orders) (filter keep places))
      ∙ ap (λ (is : List ℕ). sum_by (weight d.policy s) (map (open_order_at orders) is)) (filter_both keep (come t) places)
      ∙ sum_map (weight d.policy s) (open_order_at orders) (filter both places)
      ∙ sum_filter (weighs s) both places in
      omega (
        arith,
        sums,
        shorter d.policy orders s keep (come t) (keeps_front d orders s) (come_front s t) n (omega arith),
        left_is s,
        come_is s t,
      )

  whole : (s : Bool) → pieces_of d.policy s (take n orders) ≡ pieces_of d.policy s orders
  whole s = ap (pieces_of d.policy s) (take_all n orders (omega arith))

  none_needed : AreNeedless d (pieces_of d.policy true left) (pieces_of d.policy false left)
  none_needed =
      let K = pieces_of d.policy true left in
      let L = pieces_of d.policy false left in
      let receipts : (sum d.receipts ≤ K) ⊎ ((t : ℕ) → t < length d.gross → IsReceiptNeeded d K t → ⊥) =
      elim (keep_enough d orders true n (omega arith)) [
        | inl done ↦ inr (λ t h needs. absurd (omega (arith, done t h, needs, left_is true)))
        | inr all ↦
            inl (omega (
              arith,
              all,
              left_is true,
              whole true,
              receipts_to N table x (horizon N) (omega arith),
              sum_take-all d.receipts (horizon N) (received_sooner-few N x),
            ))
      ] in
      let rest : (sum d.arrivals + sum d.firm_due ≤ L) ⊎ ((t : ℕ) → t < length d.gross → IsOtherNeeded d L t → ⊥) =
      elim (keep_enough d orders false n (omega arith)) [
        | inl done ↦ inr (λ t h needs. absurd (omega (arith, done t h, needs, left_is false)))
        | inr all ↦
            inl (omega (
              arith,
              all,
              left_is false,
              whole false,
              others_to N table x (horizon N) (omega arith),
              sum_take-all d.arrivals (horizon N) (omega (arith, length-map-range_with_len (incoming N x) 0 (horizon N))),
              sum_take-all d.firm_due (horizon N) (omega (arith, length-map-range_with_len (firm_due N x) 0 (horizon N))),
            ))
      ] in
      (receipts, rest)

  is_without : (e : PairData) → IsPlannedFrom d e left → IsWithout d e (pieces_of d.policy true left) (pieces_of d.policy false left)
  is_without e is = record {
    params = is.params;
    policy = is.policy;
    gross = is.gross;
    receipts_end = λ t. omega (arith, is.receipts t, left_come true t, own_receipts t);
    others_end = λ t. omega (arith, is.others t, left_come false t, own_others t);
  }

pub cancelled_orders_change_nothing : CancelledOrdersChangeNothing
cancelled_orders_change_nothing N sized table fits x pair e within is =
    let d = pair_data N table x in
    let orders = kept (needed d (open_orders N x)) (open_orders N x) in
    needless_orders_change_nothing d e (pieces_of d.policy true orders) (pieces_of d.policy false orders) (data_within N sized table fits x pair) within
    (is_without N table x e is) (none_needed N table x)
    ∙ sym (ap (λ (rows : PlanRows). rows.order) (fits.rows x pair))
