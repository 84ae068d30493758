-- Advice: open orders of both sorts. Timely orders suffice, what is needed never moves back in a sort, and receipts
-- that the plan counts sooner are expedited.
use Rattle.std.proofs.Common.{◌≡◌, ◌∙◌, ℕ, zero, suc, ◌+◌, ◌-◌, ◌<◌, ◌≤◌, ◌==◌, ◌⊎◌, Bool, true, false, cond, nat_lt, inl, inr, List, length, take, sum}
use Rattle.std.proofs.Common.{refl, sym, ap, arith, add-one}
use Rattle.std.specs.Prelude.{Option, Some, None}
use Rattle.std.specs.List.{range_with_len, sum_by}
use Rattle.std.proofs.lemmas.Bool.{cases_Bool, cond-true, cond-false, false≢true, leb-true, lt-ltb, ltb-false, ltb-true, ne_eqb}
use Rattle.std.proofs.lemmas.List.{take_all}
use Rattle.std.proofs.lemmas.List.FromFn.{length-map-range_with_len}
use Rattle.mrp_qty.proofs.RangeLaws.{sum_by-add, sum_by-ext, sum_by-range-suc}
use Rattle.mrp_netting.specs.PlanRows.{PlanRows}
use Rattle.mrp_netting.specs.PlanningData.{PairData, due, lack, short}
use Rattle.mrp_netting.proofs.ReceiptLaws.{short-suc, short-zero, lack-le-short}
use Rattle.mrp_netting.proofs.RowSums.{sum_take-all, sum_take-most}
use Rattle.mrp_master_data.specs.Table.{Table, horizon}
use Rattle.mrp_net.specs.FirmOrders.{firm_due}
use Rattle.mrp_net.specs.Plan.{gross, pair_data}
use Rattle.mrp_net.specs.Policies.{policy_of}
use Rattle.mrp_net.specs.Sums.{incoming}
use Rattle.mrp_net.proofs.Sooner.{received_sooner-few}
use Rattle.mrp_advice.specs.declared.advice.Action.{Action}
use Rattle.mrp_advice.specs.declared.advice.Action.TheVariants.{Defer, Expedite}
use Rattle.mrp_advice.specs.declared.orders.OpenOrder.{OpenOrder}
use Rattle.mrp_advice.specs.Actions.{action_for}
use Rattle.mrp_advice.specs.AdviceLaws.{CountedSoonerIsExpedited, NeedsRise, TimelyOrdersSuffice, timely}
use Rattle.mrp_advice.specs.Needed.{asked_by, has_before, is_needed_by, may_come_sooner, needed, pieces_of, there_beside}
use Rattle.mrp_advice.specs.OpenOrders.{open_order_at, open_orders}
use Rattle.mrp_advice.proofs.Finding.{found_by, found_in, passed_before}
use Rattle.mrp_advice.proofs.Needing.{range-le}
use Rattle.mrp_advice.proofs.Rising.{before-le, comes_within}
use Rattle.mrp_advice.proofs.Sorts.{both_weights, others_to, pieces-le, pieces_is, pieces_more, receipts_to, same_or_other, weight, weight_other}

module _ (d : PairData) (orders : List OpenOrder) where
  abbrev sort : ℕ → Bool
  sort i = may_come_sooner d.policy (open_order_at orders i)

  -- the pieces of a sort before an order
  abbrev before : Bool → ℕ → ℕ
  before s i = pieces_of d.policy s (take i orders)

  pub has_is : (i t : ℕ) (s : Bool) → sort i ≡ s → has_before d orders i t ≡ d.params.on_hand + there_beside d s t + before s i
  has_is i t s is = ap (λ (b : Bool). d.params.on_hand + there_beside d b t + before b i) is

  abbrev test : ℕ → ℕ → Bool
  test i u = nat_lt (has_before d orders i u) (asked_by d u)

  -- an order of a sort that isn't needed by t comes after enough of its sort for each period up to t
  pub enough : (i u t : ℕ) (s : Bool) → sort i ≡ s → t < length d.gross → u ≤ t → is_needed_by t (needed d orders i) ≡ false
      → asked_by d u ≤ d.params.on_hand + there_beside d s u + before s i
  enough i u t s is within early late =
      let fails = passed_before (test i) (length d.gross) u t (omega arith) early late in
      omega (arith, ltb-false (has_before d orders i u) (asked_by d u) fails, has_is i u s is)

  -- so a receipt comes after as many as are short by t
  lack-le : (i u t : ℕ) → sort i ≡ true → t < length d.gross → u ≤ t → is_needed_by t (needed d orders i) ≡ false → lack d u ≤ before true i
  lack-le i u t is within early late = omega (arith, enough i u t true is within early late)

  short-le : (i u t : ℕ) → sort i ≡ true → t < length d.gross → u ≤ t → is_needed_by t (needed d orders i) ≡ false → short d u ≤ before true i
  short-le i zero t is within early late = omega (arith, short-zero d, lack-le i zero t is within early late)
  short-le i (suc u) t is within early late =
      omega (arith, short-suc d u, lack-le i (suc u) t is within early late, short-le i u t is within (omega arith) late)

  module _ (t : ℕ) (within : t < length d.gross) where
    -- what orders of a sort are needed for by t
    abbrev bound : Bool → ℕ
    bound true = short d t
    bound false = asked_by d t - (d.params.on_hand + there_beside d false t)

    late_bound : (i : ℕ) (s : Bool) → sort i ≡ s → is_needed_by t (needed d orders i) ≡ false → bound s ≤ before s i
    late_bound i true is late = short-le i t t is within (omega arith) late
    late_bound i false is late = omega (arith, enough i t t false is within (omega arith) late)

    -- what comes by t of an order of a sort
    part : Bool → ℕ → ℕ
    part s i = cond (is_needed_by t (needed d orders i)) (weight d.policy s (open_order_at orders i)) 0

    comes : (s : Bool) (i : ℕ) → is_needed_by t (needed d orders i) ≡ true → part s i ≡ weight d.policy s (open_order_at orders i)
    unfolding part
    comes s i by = cond-true (is_needed_by t (needed d orders i)) (weight d.policy s (open_order_at orders i)) 0 by

    abbrev come : Bool → ℕ → ℕ
    come s k = sum_by (part s) (range_with_len 0 k)

    -- of the first orders of a sort all come by t, or those that come are enough
    come_enough : (s : Bool) (k : ℕ) → k ≤ length orders → (bound s ≤ come s k) ⊎ (before s k ≤ come s k)
    come_enough s zero few = inr (omega (arith, pieces_is d.policy s (take zero orders)))
    come_enough s (suc k) few =
        let more = sum_by-range-suc (part s) k in
        let next : before s (k + 1) ≡ before s (suc k) = ap (before s) (add-one k) in
        let grown = pieces_more d.policy s orders k (omega arith) in
        elim (come_enough s k (omega arith)) [
          | inl done ↦ inl (omega (arith, done, more))
          | inr all ↦ elim (cases_Bool (is_needed_by t (needed d orders k))) [
            | inl by ↦ inr (omega (arith, all, more, next, grown, comes s k by))
            | inr late ↦ elim (same_or_other (sort k) s) [
              | inl own ↦ inl (omega (arith, all, more, late_bound k s own late))
              | inr other ↦ inr (omega (arith, all, more, next, grown, weight_other d.policy s (open_order_at orders k) other))
            ]
          ]
        ]

    -- both sorts together are what comes by t
    both : (b : Bool) (v w q : ℕ) → v + w ≡ q → cond b v 0 + cond b w 0 ≡ cond b q 0
    both true v w q is = is
    both false v w q is = refl

    all_come : come true (length orders) + come false (length orders) ≡ timely (needed d orders) orders t
    unfolding part
    all_come =
        sym (sum_by-add (part true) (part false) (range_with_len 0 (length orders)))
        ∙ sum_by-ext (λ i. part true i + part false i) (λ i. cond (is_needed_by t (needed d orders i)) (open_order_at orders i).quantity 0)
        (range_with_len 0 (length orders))
        (λ i. both (is_needed_by t (needed d orders i)) (weight d.policy true (open_order_at orders i)) (weight d.policy false (open_order_at orders i))
        (open_order_at orders i).quantity (both_weights d.policy (open_order_at orders i)))

    -- where all orders of a sort come, so does what the plan has of them
    suffices : (i : ℕ) → i < length orders → is_needed_by t (needed d orders i) ≡ false
        → due d (t + d.policy.sooner) ≤ before true (length orders)
        → there_beside d true t ≤ before false (length orders)
        → asked_by d t ≤ d.params.on_hand + come true (length orders) + come false (length orders)
    suffices i there late receipts others =
        let n = length orders in
        elim (cases_Bool (sort i)) [
          | inl sooner ↦
              let own = late_bound i true sooner late in
              let mine : short d t ≤ come true n = elim (come_enough true i (omega arith)) [
                | inl done ↦ omega (arith, done, range-le (part true) i n (omega arith))
                | inr all ↦ omega (arith, all, own, range-le (part true) i n (omega arith))
              ] in
              elim (come_enough false n (omega arith)) [
                | inl done ↦ omega (arith, done, mine)
                | inr all ↦ omega (arith, all, mine, others, lack-le-short d t)
              ]
          | inr other ↦
              let own = late_bound i false other late in
              let mine : bound false ≤ come false n = elim (come_enough false i (omega arith)) [
                | inl done ↦ omega (arith, done, range-le (part false) i n (omega arith))
                | inr all ↦ omega (arith, all, own, range-le (part false) i n (omega arith))
              ] in
              elim (come_enough true n (omega arith)) [
                | inl done ↦ omega (arith, done, mine)
                | inr all ↦ omega (arith, all, mine, receipts)
              ]
        ]

pub needs_rise : NeedsRise
needs_rise d orders t i j less same by =
    let found = found_by (test d orders j) 0 (length d.gross) t by in
    let short_then = ltb-true (has_before d orders j found.0) (asked_by d found.0) found.3 in
    let s = may_come_sooner d.policy (open_order_at orders j) in
    let fewer = pieces-le d.policy s orders i j less in
    found_in (test d orders i) 0 (length d.gross) found.0 t (omega arith) (omega (arith, found.1)) found.2
    (lt-ltb (has_before d orders i found.0) (asked_by d found.0)
    (omega (arith, short_then, fewer, has_is d orders i found.0 s same, has_is d orders j found.0 s refl)))

module _ (N : Table) (table : List PlanRows) (x : ℕ) where
  abbrev d : PairData
  d = pair_data N table x

  abbrev mine : List OpenOrder
  mine = open_orders N x

  pub periods : length d.gross ≡ horizon N
  periods = length-map-range_with_len (gross N table x) 0 (horizon N)

  all_receipts : (n : ℕ) → sum (take n d.receipts) ≤ pieces_of (policy_of N x) true (take (length mine) mine)
  all_receipts n =
      omega (
        arith,
        sum_take-most d.receipts n,
        sum_take-all d.receipts (horizon N) (received_sooner-few N x),
        receipts_to N table x (horizon N) (omega arith),
        ap (pieces_of (policy_of N x) true) (take_all (length mine) mine (omega arith)),
      )

  all_others : (n : ℕ) → sum (take n d.arrivals) + sum (take n d.firm_due) ≤ pieces_of (policy_of N x) false (take (length mine) mine)
  all_others n =
      omega (
        arith,
        sum_take-most d.arrivals n,
        sum_take-most d.firm_due n,
        sum_take-all d.arrivals (horizon N) (omega (arith, length-map-range_with_len (incoming N x) 0 (horizon N))),
        sum_take-all d.firm_due (horizon N) (omega (arith, length-map-range_with_len (firm_due N x) 0 (horizon N))),
        others_to N table x (horizon N) (omega arith),
        ap (pieces_of (policy_of N x) false) (take_all (length mine) mine (omega arith)),
      )

pub timely_orders_suffice : TimelyOrdersSuffice
timely_orders_suffice N table x t i within there late =
    let d = pair_data N table x in
    let orders = open_orders N x in
    let here : t < length d.gross = omega (arith, within, periods N table x) in
    omega (
      arith,
      suffices d orders t here i there late (all_receipts N table x (suc (t + d.policy.sooner))) (all_others N table x (suc t)),
      all_come d orders t here,
    )

-- ---- receipts that are counted sooner

expedited : (due_in t : ℕ) (o : Option ℕ) → is_needed_by t o ≡ true → t < due_in → action_for due_in o ≡ Some Expedite
expedited due_in t None by later = absurd (false≢true by)
expedited due_in t (Some u) by later =
    let early : u < due_in = omega (arith, leb-true u t by, later) in
    let action : Action = cond (nat_lt u due_in) Expedite Defer in
    cond-false (u == due_in) None (Some action) (ne_eqb u due_in (λ e. absurd (omega (arith, e, early))))
    ∙ ap (λ (a : Action). Some a) (cond-true (nat_lt u due_in) Expedite Defer (lt-ltb u due_in early))

pub counted_sooner_is_expedited : CountedSoonerIsExpedited
counted_sooner_is_expedited N table x i there is =
    let d = pair_data N table x in
    let orders = open_orders N x in
    let t = is.0 in
    let end = comes_within N x i there in
    let here : t < length d.gross = omega (arith, is.2, end, periods N table x) in
    let came : due d t ≤ pieces_of d.policy true (take i orders) =
    omega (
      arith,
      before-le N x d.policy true i (suc t) there (omega (arith, is.2)),
      receipts_to N table x (suc t) (omega (arith, is.2, end)),
    ) in
    elim (cases_Bool (is_needed_by t (needed d orders i))) [
      | inl by ↦ expedited (open_order_at orders i).period t (needed d orders i) by is.2
      | inr late ↦ absurd (omega (arith, is.3, came, short-le d orders i t t is.1 here (omega arith) late))
    ]
