-- Advice: open orders that messages expedite or defer, of a pair whose receipts count when they come. Timely orders
-- suffice, and what is needed never moves back.
use Rattle.std.proofs.Common.{◌≡◌, ℕ, zero, suc, ◌+◌, ◌-◌, ◌<◌, ◌≤◌, ◌⊎◌, Bool, true, false, cond, List, length, take, inl, inr, refl, ap, arith, add-one}
use Rattle.std.specs.List.{range_with_len, sum_by}
use Rattle.std.proofs.lemmas.Bool.{cases_Bool, cond-true, lt-ltb, ltb-false, ltb-true}
use Rattle.std.proofs.lemmas.List.{take-take}
use Rattle.std.proofs.lemmas.List.Sums.{sum_by_more, sum_by-take-le}
use Rattle.mrp_qty.proofs.RangeLaws.{sum_by-range-suc}
use Rattle.mrp_master_data.specs.declared.rows.PairRow.{PairRow}
use Rattle.mrp_advice.specs.declared.orders.OpenOrder.{OpenOrder}
use Rattle.mrp_advice.specs.AdviceLaws.{PlainNeedsRise, PlainOrdersSuffice, timely}
use Rattle.mrp_advice.specs.Needed.{is_needed_by}
use Rattle.mrp_advice.specs.OpenOrders.{no_order, open_order_at}
use Rattle.mrp_advice.specs.PlainNeeds.{gross_to, had_before, is_short, plain_needed}
use Rattle.mrp_advice.proofs.Finding.{found_by, found_in, passed_over}

-- the first elements of a list have no more than more of them
pub front-le : {X : Type 0} (f : X → ℕ) (xs : List X) (i j : ℕ) → i ≤ j → sum_by f (take i xs) ≤ sum_by f (take j xs)
front-le {X} f xs i j less =
    omega (arith, sum_by-take-le f (take j xs) i, ap (λ (ys : List X). sum_by f ys) (take-take i j xs less))

-- so have the first numbers
numbers-le : (f : ℕ → ℕ) (i more : ℕ) → sum_by f (range_with_len 0 i) ≤ sum_by f (range_with_len 0 (i + more))
numbers-le f i zero = let same : i + zero ≡ i = omega arith in omega (arith, ap (λ (n : ℕ). sum_by f (range_with_len 0 n)) same)
numbers-le f i (suc more) =
    let same : i + suc more ≡ suc (i + more) = omega arith in
    omega (arith, ap (λ (n : ℕ). sum_by f (range_with_len 0 n)) same, sum_by-range-suc f (i + more), numbers-le f i more)

pub range-le : (f : ℕ → ℕ) (i n : ℕ) → i ≤ n → sum_by f (range_with_len 0 i) ≤ sum_by f (range_with_len 0 n)
range-le f i n less =
    let same : i + (n - i) ≡ n = omega arith in
    omega (arith, numbers-le f i (n - i), ap (λ (k : ℕ). sum_by f (range_with_len 0 k)) same)

-- one order more
pub had_more : (pair : PairRow) (orders : List OpenOrder) (i : ℕ) → i < length orders
    → had_before pair orders (i + 1) ≡ had_before pair orders i + (open_order_at orders i).quantity
had_more pair orders i within = omega (arith, sum_by_more (λ (o : OpenOrder). o.quantity) orders i no_order within)

module _ (pair : PairRow) (gross : List ℕ) (orders : List OpenOrder) (t : ℕ) where
  abbrev enough : ℕ
  enough = pair.safety + gross_to gross t

  abbrev had : ℕ → ℕ
  had i = had_before pair orders i

  abbrev short_in : ℕ → ℕ → Bool
  short_in i u = is_short pair.safety gross (had i) u

  -- what a pair has before an order that isn't needed by then is enough
  covered : (i : ℕ) → t < length gross → is_needed_by t (plain_needed pair gross orders i) ≡ false → enough ≤ had i
  covered i within late = ltb-false (had i) enough (passed_over (short_in i) (length gross) t within late)

  -- what comes of an order by then
  part : ℕ → ℕ
  part i = cond (is_needed_by t (plain_needed pair gross orders i)) (open_order_at orders i).quantity 0

  comes : (i : ℕ) → is_needed_by t (plain_needed pair gross orders i) ≡ true → part i ≡ (open_order_at orders i).quantity
  unfolding part
  comes i by = cond-true (is_needed_by t (plain_needed pair gross orders i)) (open_order_at orders i).quantity 0 by

  abbrev come : ℕ → ℕ
  come k = pair.on_hand + sum_by part (range_with_len 0 k)

  -- of the first orders all come by then, or those that come are enough
  come_enough : (k : ℕ) → t < length gross → k ≤ length orders → (enough ≤ come k) ⊎ (had k ≤ come k)
  come_enough zero within few = inr (omega arith)
  come_enough (suc k) within few =
      let more = sum_by-range-suc part k in
      elim (come_enough k within (omega arith)) [
        | inl done ↦ inl (omega (arith, done, more))
        | inr all ↦ elim (cases_Bool (is_needed_by t (plain_needed pair gross orders k))) [
          | inl by ↦
              let next : had (k + 1) ≡ had (suc k) = ap had (add-one k) in
              inr (omega (arith, all, more, next, had_more pair orders k (omega arith), comes k by))
          | inr late ↦ inl (omega (arith, all, more, covered k within late))
        ]
      ]

  suffices : (i : ℕ) → t < length gross → i < length orders → is_needed_by t (plain_needed pair gross orders i) ≡ false → enough ≤ come (length orders)
  suffices i within there late =
      let before = range-le part i (length orders) (omega arith) in
      elim (come_enough i within (omega arith)) [
        | inl done ↦ omega (arith, done, before)
        | inr all ↦ omega (arith, all, before, covered i within late)
      ]

  come_is : sum_by part (range_with_len 0 (length orders)) ≡ timely (plain_needed pair gross orders) orders t
  unfolding part
  come_is = refl

pub plain_orders_suffice : PlainOrdersSuffice
plain_orders_suffice pair gross orders t i within there late =
    omega (arith, suffices pair gross orders t i within there late, come_is pair gross orders t)

pub plain_needs_rise : PlainNeedsRise
plain_needs_rise pair gross orders t i j less by =
    let found = found_by (is_short pair.safety gross (had_before pair orders j)) 0 (length gross) t by in
    let short = ltb-true (had_before pair orders j) (pair.safety + gross_to gross found.0) found.3 in
    let fewer = front-le (λ (o : OpenOrder). o.quantity) orders i j less in
    found_in (is_short pair.safety gross (had_before pair orders i)) 0 (length gross) found.0 t (omega arith) (omega (arith, found.1)) found.2
    (lt-ltb (had_before pair orders i) (pair.safety + gross_to gross found.0) (omega (arith, short, fewer)))
