-- Advice: open orders are needed, by their exception messages, exactly as the plan needs them, and receipts are
-- counted sooner exactly if they are needed then.
use Rattle.std.proofs.Common.{◌≡◌, ◌∙◌, ℕ, suc, ◌+◌, ◌-◌, ◌<◌, ◌≤◌, ◌==◌, Bool, true, false, cond, nat_lt, inl, inr, List, length, take}
use Rattle.std.proofs.Common.{sym, ap, arith}
use Rattle.std.specs.Prelude.{Option, Some, None}
use Rattle.std.proofs.lemmas.Bool.{and_parts, cases_Bool, cases_lt, cond-true, cond-false, false≢true, le-leb, le-ltb, lt-ltb, ltb-true}
use Rattle.mrp_netting.specs.PlanRows.{PlanRows}
use Rattle.mrp_netting.specs.PlanningData.{PairData, due}
use Rattle.mrp_netting.proofs.Needless.{needed_receipts_are_counted}
use Rattle.mrp_netting.proofs.RowSums.{sum_take-le}
use Rattle.mrp_master_data.specs.Table.{Table, IsTable}
use Rattle.mrp_net.specs.Plan.{pair_data}
use Rattle.mrp_net.specs.Policies.{policy_of}
use Rattle.mrp_advice.specs.declared.advice.Action.{Action}
use Rattle.mrp_advice.specs.declared.advice.Action.TheVariants.{Beyond, Cancel, Defer, Expedite}
use Rattle.mrp_advice.specs.declared.orders.OpenOrder.{OpenOrder}
use Rattle.mrp_advice.specs.Actions.{action_for}
use Rattle.mrp_advice.specs.AdviceLaws.{ExpeditedIsCountedSooner, NeededIsCountedSooner, OthersAreNeeded, ReceiptsAreNeeded}
use Rattle.mrp_advice.specs.Needed.{asked_by, has_before, is_needed_by, may_come_sooner, needed, pieces_of}
use Rattle.mrp_advice.specs.OpenOrders.{is_receipt, no_order, open_order_at, open_orders}
use Rattle.mrp_advice.proofs.Coming.{open_has_pieces}
use Rattle.mrp_advice.proofs.Finding.{found_by, found_in}
use Rattle.mrp_advice.proofs.Rising.{before-le, comes_within, with-le}
use Rattle.mrp_advice.proofs.SortNeeds.{has_is, periods}
use Rattle.mrp_advice.proofs.Sorts.{pieces_more, receipts_to, weight_own}

-- an order is needed by t exactly if what is had before it isn't enough in a period up to t
module _ (d : PairData) (orders : List OpenOrder) (t i : ℕ) where
  abbrev IsNeededIn : ℕ → Type 0
  IsNeededIn s = has_before d orders i s < asked_by d s

  abbrev test : ℕ → Bool
  test s = nat_lt (has_before d orders i s) (asked_by d s)

  needed_in : is_needed_by t (needed d orders i) ≡ true → (s : ℕ) × s ≤ t × IsNeededIn s
  needed_in by =
      let found = found_by test 0 (length d.gross) t by in
      (found.0, found.2, ltb-true (has_before d orders i found.0) (asked_by d found.0) found.3)

  needed_if : t < length d.gross → (s : ℕ) → s ≤ t → IsNeededIn s → is_needed_by t (needed d orders i) ≡ true
  needed_if within s early less =
      found_in test 0 (length d.gross) s t (omega arith) (omega (arith, within, early)) early
      (lt-ltb (has_before d orders i s) (asked_by d s) less)

pub receipts_are_needed : ReceiptsAreNeeded
receipts_are_needed d orders t i within sort = (
  λ by. let then = needed_in d orders t i by in (then.0, then.1, omega (arith, then.2, has_is d orders i then.0 true sort)),
  λ is. needed_if d orders t i within is.0 is.1 (omega (arith, is.2, has_is d orders i is.0 true sort)),
)

pub others_are_needed : OthersAreNeeded
others_are_needed d orders t i within sort = (
  λ by. let then = needed_in d orders t i by in (then.0, then.1, omega (arith, then.2, has_is d orders i then.0 false sort)),
  λ is. needed_if d orders t i within is.0 is.1 (omega (arith, is.2, has_is d orders i is.0 false sort)),
)

-- ---- receipts that are counted sooner

module _ (N : Table) (table : List PlanRows) (x i : ℕ) (there : i < length (open_orders N x)) where
  abbrev d : PairData
  d = pair_data N table x

  abbrev order : OpenOrder
  order = open_order_at (open_orders N x) i

  abbrev before : ℕ
  before = pieces_of (policy_of N x) true (take i (open_orders N x))

  -- the receipts before one are no fewer than are due before it
  due_before : (n : ℕ) → n < order.period → due d n ≤ before
  due_before n early =
      let end = comes_within N x i there in
      omega (
        arith,
        before-le N x (policy_of N x) true i (suc n) there (omega (arith, early)),
        receipts_to N table x (suc n) (omega (arith, early, end)),
      )

  -- with it they are no more than are due when it comes
  due_with : IsTable N → may_come_sooner (policy_of N x) order ≡ true → before < due d order.period
  due_with is sort =
      let end = comes_within N x i there in
      let some : 1 ≤ order.quantity = open_has_pieces N is x i no_order there in
      omega (
        arith,
        some,
        pieces_more (policy_of N x) true (open_orders N x) i there,
        weight_own (policy_of N x) true order sort,
        with-le N x (policy_of N x) true i (suc order.period) there (omega arith) (omega (arith, end)),
        receipts_to N table x (suc order.period) (omega (arith, end)),
      )

  -- so what may be counted by t has a piece of it exactly if it comes within SOONER periods
  comes_soon : (t : ℕ) → before < due d (t + d.policy.sooner) → order.period ≤ t + d.policy.sooner
  comes_soon t counted =
      elim (cases_lt (t + d.policy.sooner) order.period) as (λ _. order.period ≤ t + d.policy.sooner) [
        | inl far ↦ absurd (omega (arith, counted, due_before (t + d.policy.sooner) far))
        | inr near ↦ near
      ]

  may_count : IsTable N → may_come_sooner (policy_of N x) order ≡ true → (t : ℕ) → order.period ≤ t + d.policy.sooner
      → before < due d (t + d.policy.sooner)
  may_count is sort t near =
      omega (
        arith,
        due_with is sort,
        sum_take-le d.receipts (suc order.period) (suc (t + d.policy.sooner)) (omega (arith, near)),
      )

pub needed_is_counted_sooner : NeededIsCountedSooner
needed_is_counted_sooner N is table x i t there sort early =
    let d = pair_data N table x in
    let orders = open_orders N x in
    let before = pieces_of (policy_of N x) true (take i orders) in
    let end = comes_within N x i there in
    let needs = receipts_are_needed d orders t i (omega (arith, early, end, periods N table x)) sort in
    let counts = needed_receipts_are_counted d before t in (
      λ counted. elim (counts.0 counted) [
        | inl came ↦ absurd (omega (arith, came, due_before N table x i there t early))
        | inr sooner ↦ (needs.1 sooner.1, comes_soon N table x i there t sooner.0)
      ],
      λ soon. counts.1 (inr (may_count N table x i there is sort t soon.1, needs.0 soon.0)),
    )

-- ---- receipts that are expedited

abbrev is_expedite : Option Action → Bool
is_expedite None = false
is_expedite (Some Expedite) = true
is_expedite (Some Defer) = false
is_expedite (Some Cancel) = false
is_expedite (Some Beyond) = false

-- what is expedited is needed by the period before it comes
early_needed : (due_in : ℕ) (o : Option ℕ) → action_for due_in o ≡ Some Expedite → (0 < due_in) × (is_needed_by (due_in - 1) o ≡ true)
early_needed due_in None is = absurd (false≢true (ap is_expedite is))
early_needed due_in (Some u) is =
    let action : Action = cond (nat_lt u due_in) Expedite Defer in
    elim (cases_Bool (u == due_in)) [
      | inl same ↦ absurd (false≢true (sym (ap is_expedite (cond-true (u == due_in) None (Some action) same)) ∙ ap is_expedite is))
      | inr apart ↦
          let other = cond-false (u == due_in) None (Some action) apart in
          elim (cases_lt u due_in) [
            | inl early ↦ (omega (arith, early), le-leb u (due_in - 1) (omega (arith, early)))
            | inr late ↦
                let defers = ap (λ (a : Action). Some a) (cond-false (nat_lt u due_in) Expedite Defer (le-ltb u due_in late)) in
                absurd (false≢true (sym (ap is_expedite (other ∙ defers)) ∙ ap is_expedite is))
          ]
    ]

pub expedited_is_counted_sooner : ExpeditedIsCountedSooner
expedited_is_counted_sooner N is table x i there sort expedited =
    let order = open_order_at (open_orders N x) i in
    let policy = policy_of N x in
    let early = early_needed order.period (needed (pair_data N table x) (open_orders N x) i) expedited in
    let some : 0 < policy.sooner = ltb-true 0 policy.sooner (and_parts (nat_lt 0 policy.sooner) (is_receipt order.kind) sort).0 in
    let t = order.period - 1 in
    let earlier : t < order.period = omega (arith, early.0) in
    let counted = needed_is_counted_sooner N is table x i t there sort earlier in
    (t, sort, earlier, counted.1 (early.1, omega (arith, some)))
