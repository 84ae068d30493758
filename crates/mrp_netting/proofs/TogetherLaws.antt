-- Netting one pair: data by which as much comes in and is firmly released in each period have one plan.
use Rattle.std.specs.Prelude.{◌≡◌, ℕ, ◌+◌, ◌-◌, ◌==◌, if◌then◌else◌, List, length, sum, take, slice_index, zero, suc}
use Rattle.std.proofs.Common.{arith, sym, ◌∙◌, ap}
use Rattle.mrp_qty.proofs.RangeLaws.{sum_take-suc, map-range-same}
use Rattle.mrp_netting.specs.declared.params.PairParams.{PairParams}
use Rattle.mrp_netting.specs.declared.planning_data.Policy.{Policy}
use Rattle.mrp_netting.specs.PlanRows.{sum_from, late_orders}
use Rattle.mrp_netting.specs.PlanningData.{PairData, due, had, incoming_at, incoming_row, lot_for, made_up}
use Rattle.mrp_netting.specs.PlanningData.{order_after, available_after, balance_before, order_at, order_row, available_row}
use Rattle.mrp_netting.specs.PlanningData.{earliest, release_at, release_row, one}
use Rattle.mrp_netting.specs.PlanningLaws.{SumIsEnough}
use Rattle.mrp_netting.proofs.ReceiptLaws.{incoming_at-is}
use Rattle.mrp_netting.proofs.DataLaws.{order_at-is, balance_before-zero, balance_before-suc}

-- receipts that count when they come
had-due : (d : PairData) (t : ℕ) → d.policy.sooner ≡ 0 → had d t ≡ due d t
had-due d t none =
    let same : suc (t + d.policy.sooner) ≡ suc t = omega arith in
    let there = ap (λ (n : ℕ). sum (take n d.receipts)) same in
    omega (arith, there)

pub incoming-due : (d : PairData) (t : ℕ) → d.policy.sooner ≡ 0
    → incoming_at d t ≡ slice_index d.receipts t + slice_index d.arrivals t + slice_index d.firm_due t
incoming-due d zero none = omega (arith, incoming_at-is d zero, had-due d zero none, sum_take-suc d.receipts zero)
incoming-due d (suc t) none =
    omega (arith, incoming_at-is d (suc t), had-due d (suc t) none, had-due d t none, sum_take-suc d.receipts (suc t))

-- the data of d with the rows of e
abbrev pub with_rows : PairData → PairData → PairData
with_rows d e = record e { params = d.params; policy = d.policy; gross = d.gross }

-- an order by what comes in
abbrev order_by : PairParams → Policy → List ℕ → List ℕ → ℕ → ℕ → ℕ
order_by params policy gross come before t =
    let needs : ℕ → ℕ = λ n. (params.safety + sum_from gross t (n + policy.cover)) - (before + sum_from come t n) in
    if needs 1 == 0 then 0 else made_up policy (lot_for params.rule needs)

module _ (d e : PairData) (same_incoming : (t : ℕ) → incoming_at d t ≡ incoming_at (with_rows d e) t)
    (firm : (t : ℕ) → slice_index d.firm_start t ≡ slice_index e.firm_start t) where
  same_row : incoming_row d ≡ incoming_row (with_rows d e)
  same_row = map-range-same (incoming_at d) (incoming_at (with_rows d e)) (length d.gross) (λ t h. same_incoming t)

  same_order_after : (before t : ℕ) → order_after d before t ≡ order_after (with_rows d e) before t
  same_order_after before t = ap (λ (row : List ℕ). order_by d.params d.policy d.gross row before t) same_row

  same_balance : (t : ℕ) → balance_before d t ≡ balance_before (with_rows d e) t
  same_balance zero = balance_before-zero d ∙ sym (balance_before-zero (with_rows d e))
  same_balance (suc t) =
      let f = with_rows d e in
      let before = balance_before d t in
      balance_before-suc d t
      ∙ ap (λ (q : ℕ). (before + q + order_after d before t) - slice_index d.gross t) (same_incoming t)
      ∙ ap (λ (q : ℕ). (before + incoming_at f t + q) - slice_index d.gross t) (same_order_after before t)
      ∙ ap (λ (b : ℕ). available_after f b t) (same_balance t)
      ∙ sym (balance_before-suc f t)

  same_order : (t : ℕ) → order_at d t ≡ order_at (with_rows d e) t
  same_order t =
      let f = with_rows d e in
      order_at-is d t ∙ same_order_after (balance_before d t) t ∙ ap (λ (b : ℕ). order_after f b t) (same_balance t) ∙ sym (order_at-is f t)

  same_orders : order_row d ≡ order_row (with_rows d e)
  same_orders = map-range-same (order_at d) (order_at (with_rows d e)) (length d.gross) (λ t h. same_order t)

  same_available : available_row d ≡ available_row (with_rows d e)
  same_available =
      map-range-same (λ t. balance_before d (suc t)) (λ t. balance_before (with_rows d e) (suc t)) (length d.gross) (λ t h. same_balance (suc t))

  same_release : (order : List ℕ) → release_row d order ≡ release_row (with_rows d e) order
  same_release order =
      map-range-same (release_at d order) (release_at (with_rows d e) order) (length d.gross) (λ u h. omega (arith, firm u))

  pub same_plan : one d ≡ one (with_rows d e)
  unfolding one
  same_plan =
      let f = with_rows d e in
      let release : release_row d (order_row d) ≡ release_row f (order_row f) = same_release (order_row d) ∙ ap (release_row f) same_orders in
      let late : late_orders (earliest d) (order_row d) ≡ late_orders (earliest d) (order_row f) = ap (late_orders (earliest d)) same_orders in
      let stock = same_available in
      let ordered = same_orders in
      let came = same_row in
      cc

pub sum_is_enough : SumIsEnough
sum_is_enough d e are =
    let moved : with_rows d e ≡ e =
    ap (λ (p : PairParams). record e { params = p; policy = d.policy; gross = d.gross }) are.params
    ∙ ap (λ (p : Policy). record e { policy = p; gross = d.gross }) are.policy
    ∙ ap (λ (row : List ℕ). record e { gross = row }) are.gross in
    let same : (t : ℕ) → incoming_at d t ≡ incoming_at (with_rows d e) t =
    λ t. omega (arith, incoming-due d t are.when_due, incoming-due (with_rows d e) t are.when_due, are.come t) in
    same_plan d e same are.released ∙ ap one moved
