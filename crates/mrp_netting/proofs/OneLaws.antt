-- Netting one pair: laws of its plan.
use Rattle.std.specs.Prelude.{◌≡◌, ℕ, ◌+◌, ◌-◌, ◌≤◌, ◌<◌, ◌==◌, if◌then◌else◌, min, max, All}
use Rattle.std.specs.Prelude.{List, length, map, get_or, sum, sum_by, take, drop, slice_index, zero, suc}
use Rattle.std.specs.List.{range_with_len}
use Rattle.std.proofs.Common.{arith, sym, refl, ◌∙◌, ap, subst, eqb-true, eq-eqb}
use Rattle.std.proofs.lemmas.Bool.{cond_both, false≢true}
use Rattle.std.proofs.lemmas.List.FromFn.{length-range_with_len, get_or-range_with_len, length-map-range_with_len, get_or-map-range_with_len}
use Rattle.std.proofs.lemmas.List.Sums.{sum_by-take-le, sum_by-take-drop, sum-map, get_or-le-sum_by}
use Rattle.mrp_qty.specs.declared.quantity.TheConstants.{MOST}
use Rattle.mrp_netting.specs.declared.params.PairParams.{PairParams}
use Rattle.mrp_lot.specs.Lot.{IsRule, rule_quantities, periods_covered}
use Rattle.mrp_lot.proofs.LotLaws.{lot-ge, lot-le, covers_one}
use Rattle.mrp_qty.proofs.RangeLaws.{sum_take-suc, sum_drop_take-one, sum_by-range-suc, sum_by-range-same, moved_sum}
use Rattle.mrp_netting.specs.One.{need_over, greatest_need, net_after, order_after, available_after, balance_before, order_at, order_row, released, one}
use Rattle.mrp_netting.specs.Bound.{IsWithin}
use Rattle.mrp_netting.specs.Rules.{OrdersAreReleased, ReleasesAreBounded, AvailableCoversSafety, RowsStayWithin}

-- the definitions, opened a step
pub greatest_need-suc : (pair : PairParams) (incoming gross : List ℕ) (before t n : ℕ)
    → greatest_need pair incoming gross before t (suc n) ≡ max (greatest_need pair incoming gross before t n) (need_over pair incoming gross before t (suc n))
unfolding greatest_need
greatest_need-suc pair incoming gross before t n = refl

pub greatest_need-zero : (pair : PairParams) (incoming gross : List ℕ) (before t : ℕ) → greatest_need pair incoming gross before t zero ≡ 0
unfolding greatest_need
greatest_need-zero pair incoming gross before t = refl

pub balance_before-zero : (pair : PairParams) (incoming gross : List ℕ) → balance_before pair incoming gross zero ≡ pair.on_hand
unfolding balance_before
balance_before-zero pair incoming gross = refl

pub balance_before-suc : (pair : PairParams) (incoming gross : List ℕ) (t : ℕ)
    → balance_before pair incoming gross (suc t) ≡ available_after pair incoming gross (balance_before pair incoming gross t) t
unfolding balance_before
balance_before-suc pair incoming gross t = refl

pub order_at-is : (pair : PairParams) (incoming gross : List ℕ) (t : ℕ)
    → order_at pair incoming gross t ≡ order_after pair incoming gross (balance_before pair incoming gross t) t
unfolding order_at
order_at-is pair incoming gross t = refl

-- an order that is placed only for a net requirement
order_placed-ge : (net ordered : ℕ) → net ≤ ordered → net ≤ (if net == 0 then 0 else ordered)
order_placed-ge net ordered h =
    cond_both (net == 0) 0 ordered (λ v. net ≤ v) (λ e. let none : net ≡ 0 = eqb-true net 0 e in omega arith) (λ e. h)

order_placed-le : (net ordered bound : ℕ) → (0 < net → ordered ≤ bound) → (if net == 0 then 0 else ordered) ≤ bound
order_placed-le net ordered bound h =
    cond_both (net == 0) 0 ordered (λ v. v ≤ bound) (λ e. omega arith)
    (λ e. h (let some : net ≡ 0 → ⊥ = λ z. false≢true (sym e ∙ eq-eqb net 0 z) in omega arith))

-- the greatest need is no less than the first period's, and no more than that of all periods
pub greatest_need-ge : (pair : PairParams) (incoming gross : List ℕ) (before t n : ℕ) → 1 ≤ n
    → net_after pair incoming gross before t ≤ greatest_need pair incoming gross before t n
greatest_need-ge pair incoming gross before t zero some = absurd (omega arith)
greatest_need-ge pair incoming gross before t (suc zero) some =
    omega (arith, greatest_need-suc pair incoming gross before t zero, sum_drop_take-one gross t, sum_drop_take-one incoming t)
greatest_need-ge pair incoming gross before t (suc (suc n)) some =
    omega (arith, greatest_need-suc pair incoming gross before t (suc n), greatest_need-ge pair incoming gross before t (suc n) (omega arith))

pub greatest_need-le : (pair : PairParams) (incoming gross : List ℕ) (before t n : ℕ)
    → greatest_need pair incoming gross before t n ≤ (pair.safety + sum (drop t gross)) - before
greatest_need-le pair incoming gross before t zero = omega (arith, greatest_need-zero pair incoming gross before t)
greatest_need-le pair incoming gross before t (suc n) =
    omega (
      arith,
      greatest_need-suc pair incoming gross before t n,
      greatest_need-le pair incoming gross before t n,
      sum_by-take-le (λ (x : ℕ). x) (drop t gross) (suc n),
    )

-- an order covers the net requirement
pub order_after-ge : (pair : PairParams) (incoming gross : List ℕ) (before t : ℕ) → IsRule pair.rule → t < length gross
    → net_after pair incoming gross before t ≤ order_after pair incoming gross before t
order_after-ge pair incoming gross before t is within =
    let n = min (periods_covered pair.rule) (length gross - t) in
    let span = greatest_need-ge pair incoming gross before t n (omega (arith, covers_one pair.rule is)) in
    order_placed-ge _ _ (lot-ge pair.rule (net_after pair incoming gross before t) (greatest_need pair incoming gross before t n) is span)

-- with the balance before it, no more than safety, the rule's quantities and the gross requirements from there on
pub order_after-le : (pair : PairParams) (incoming gross : List ℕ) (before t : ℕ) → IsRule pair.rule → t < length gross
    → order_after pair incoming gross before t ≤ (pair.safety + rule_quantities pair.rule + sum (drop t gross)) - before
order_after-le pair incoming gross before t is within =
    let n = min (periods_covered pair.rule) (length gross - t) in
    let span = greatest_need-ge pair incoming gross before t n (omega (arith, covers_one pair.rule is)) in
    let most = greatest_need-le pair incoming gross before t n in
    let ordered = lot-le pair.rule (net_after pair incoming gross before t) (greatest_need pair incoming gross before t n) is span in
    order_placed-le (net_after pair incoming gross before t) _ _ (λ some. omega (arith, span, most, ordered))

-- nothing is cut off: the balance and what comes in and is ordered cover safety and the gross requirement
pub order_covers : (pair : PairParams) (incoming gross : List ℕ) (t : ℕ) → IsWithin pair incoming gross → t < length gross
    → pair.safety + slice_index gross t ≤ balance_before pair incoming gross t + slice_index incoming t + order_at pair incoming gross t
order_covers pair incoming gross t is within =
    omega (arith, order_after-ge pair incoming gross (balance_before pair incoming gross t) t is.rule within, order_at-is pair incoming gross t)

pub balance_before-next : (pair : PairParams) (incoming gross : List ℕ) (t : ℕ) → IsWithin pair incoming gross → t < length gross
    → balance_before pair incoming gross (suc t) + slice_index gross t
    ≡ balance_before pair incoming gross t + slice_index incoming t + order_at pair incoming gross t
balance_before-next pair incoming gross t is within =
    omega (arith, order_covers pair incoming gross t is within, balance_before-suc pair incoming gross t, order_at-is pair incoming gross t)

-- the projected available is never below safety
pub safety-le-balance_before : (pair : PairParams) (incoming gross : List ℕ) (t : ℕ) → IsWithin pair incoming gross → t < length gross
    → pair.safety ≤ balance_before pair incoming gross (suc t)
safety-le-balance_before pair incoming gross t is within =
    omega (arith, order_covers pair incoming gross t is within, balance_before-next pair incoming gross t is within)

-- what was there and came in and was ordered is there still or was required
pub balance_before-sum : (pair : PairParams) (incoming gross : List ℕ) (t : ℕ) → IsWithin pair incoming gross → t ≤ length gross
    → balance_before pair incoming gross t + sum (take t gross)
    ≡ pair.on_hand + sum (take t incoming) + sum_by (order_at pair incoming gross) (range_with_len 0 t)
balance_before-sum pair incoming gross zero is within = omega (arith, balance_before-zero pair incoming gross)
balance_before-sum pair incoming gross (suc t) is within =
    omega (
      arith,
      balance_before-next pair incoming gross t is (omega arith),
      balance_before-sum pair incoming gross t is (omega arith),
      sum_take-suc gross t,
      sum_take-suc incoming t,
      sum_by-range-suc (order_at pair incoming gross) t,
    )

-- the orders together are at most safety, the rule's quantities and all gross requirements
pub orders-le : (pair : PairParams) (incoming gross : List ℕ) (t : ℕ) → IsWithin pair incoming gross → t ≤ length gross
    → sum_by (order_at pair incoming gross) (range_with_len 0 t) ≤ pair.safety + rule_quantities pair.rule + sum gross
orders-le pair incoming gross zero is within = omega arith
orders-le pair incoming gross (suc t) is within =
    let before = balance_before pair incoming gross t in
    omega (
      arith,
      orders-le pair incoming gross t is (omega arith),
      balance_before-sum pair incoming gross t is (omega arith),
      order_after-le pair incoming gross before t is.rule (omega arith),
      order_at-is pair incoming gross t,
      sum_by-range-suc (order_at pair incoming gross) t,
      sum_by-take-drop (λ (x : ℕ). x) gross t,
    )

-- no balance is above all quantities together
pub balance_before-le : (pair : PairParams) (incoming gross : List ℕ) (t : ℕ) → IsWithin pair incoming gross → t ≤ length gross
    → balance_before pair incoming gross t ≤ pair.on_hand + sum incoming + sum gross + pair.safety + rule_quantities pair.rule
balance_before-le pair incoming gross t is within =
    omega (
      arith,
      balance_before-sum pair incoming gross t is within,
      orders-le pair incoming gross t is within,
      sum_by-take-le (λ (x : ℕ). x) incoming t,
    )

-- the order row, period by period
pub length-order_row : (pair : PairParams) (incoming gross : List ℕ) → length (order_row pair incoming gross) ≡ length gross
length-order_row pair incoming gross = length-map-range_with_len (order_at pair incoming gross) 0 (length gross)

pub order_row-at : (pair : PairParams) (incoming gross : List ℕ) (t : ℕ) → t < length gross
    → slice_index (order_row pair incoming gross) t ≡ order_at pair incoming gross t
order_row-at pair incoming gross t h = get_or-map-range_with_len (order_at pair incoming gross) 0 (length gross) t t 0 h (omega arith)

-- planned order release of period u in the plan
unfoldable pub release_at : PairParams → List ℕ → List ℕ → ℕ → ℕ
release_at pair incoming gross u = released pair.lead (order_row pair incoming gross) (length (order_row pair incoming gross)) u

-- a release of the plan: its orders that are due a lead time later, or before
pub release_at-is : (pair : PairParams) (incoming gross : List ℕ) (u : ℕ) → release_at pair incoming gross u
    ≡ sum_by (λ t. if (t - pair.lead) == u then order_at pair incoming gross t else 0) (range_with_len 0 (length gross))
unfolding release_at
release_at-is pair incoming gross u =
    ap (λ (n : ℕ). sum_by (λ t. if (t - pair.lead) == u then slice_index (order_row pair incoming gross) t else 0) (range_with_len 0 n))
    (length-order_row pair incoming gross)
    ∙ sum_by-range-same (λ t. if (t - pair.lead) == u then slice_index (order_row pair incoming gross) t else 0)
    (λ t. if (t - pair.lead) == u then order_at pair incoming gross t else 0) (length gross)
    (λ t below. ap (λ (q : ℕ). if (t - pair.lead) == u then q else 0) (order_row-at pair incoming gross t below))

-- what is ordered is released
pub releases-sum : (pair : PairParams) (incoming gross : List ℕ)
    → sum_by (release_at pair incoming gross) (range_with_len 0 (length gross)) ≡ sum_by (order_at pair incoming gross) (range_with_len 0 (length gross))
releases-sum pair incoming gross =
    sum_by-range-same (release_at pair incoming gross)
    (λ u. sum_by (λ t. if (t - pair.lead) == u then order_at pair incoming gross t else 0) (range_with_len 0 (length gross))) (length gross)
    (λ u h. release_at-is pair incoming gross u)
    ∙ moved_sum (order_at pair incoming gross) (λ t. t - pair.lead) (length gross) (λ k h. omega arith)

pub releases-le : (pair : PairParams) (incoming gross : List ℕ) → IsWithin pair incoming gross
    → sum_by (release_at pair incoming gross) (range_with_len 0 (length gross)) ≤ pair.safety + rule_quantities pair.rule + sum gross
releases-le pair incoming gross is = omega (arith, releases-sum pair incoming gross, orders-le pair incoming gross (length gross) is (omega arith))

-- the rows of the plan, by period and as a whole
pub one-order : (pair : PairParams) (incoming gross : List ℕ) → (one pair incoming gross).order
    ≡ map (order_at pair incoming gross) (range_with_len 0 (length gross))
unfolding one
one-order pair incoming gross = refl

pub one-release : (pair : PairParams) (incoming gross : List ℕ) → (one pair incoming gross).release
    ≡ map (release_at pair incoming gross) (range_with_len 0 (length gross))
unfolding one release_at
one-release pair incoming gross = ap (λ (n : ℕ). map (release_at pair incoming gross) (range_with_len 0 n)) (length-order_row pair incoming gross)

-- each row has a period for each gross requirement
pub length-one-order : (pair : PairParams) (incoming gross : List ℕ) → length (one pair incoming gross).order ≡ length gross
length-one-order pair incoming gross =
    ap (λ (row : List ℕ). length row) (one-order pair incoming gross) ∙ length-map-range_with_len (order_at pair incoming gross) 0 (length gross)

pub length-one-release : (pair : PairParams) (incoming gross : List ℕ) → length (one pair incoming gross).release ≡ length gross
length-one-release pair incoming gross =
    ap (λ (row : List ℕ). length row) (one-release pair incoming gross) ∙ length-map-range_with_len (release_at pair incoming gross) 0 (length gross)

pub one-available : (pair : PairParams) (incoming gross : List ℕ)
    → (one pair incoming gross).available ≡ map (λ t. balance_before pair incoming gross (suc t)) (range_with_len 0 (length gross))
unfolding one
one-available pair incoming gross = refl

pub length-one-available : (pair : PairParams) (incoming gross : List ℕ) → length (one pair incoming gross).available ≡ length gross
length-one-available pair incoming gross =
    ap (λ (row : List ℕ). length row) (one-available pair incoming gross)
    ∙ length-map-range_with_len (λ t. balance_before pair incoming gross (suc t)) 0 (length gross)

pub one-gross : (pair : PairParams) (incoming gross : List ℕ) → (one pair incoming gross).gross ≡ gross
unfolding one
one-gross pair incoming gross = refl

pub one-incoming : (pair : PairParams) (incoming gross : List ℕ) → (one pair incoming gross).incoming ≡ incoming
unfolding one
one-incoming pair incoming gross = refl

pub one-release_sum : OrdersAreReleased
one-release_sum pair incoming gross =
    ap sum (one-release pair incoming gross) ∙ sum-map (release_at pair incoming gross) (range_with_len 0 (length gross)) ∙ releases-sum pair incoming gross
    ∙ sym (sum-map (order_at pair incoming gross) (range_with_len 0 (length gross))) ∙ sym (ap sum (one-order pair incoming gross))

-- the releases of the plan together
pub one-release_sum-le : ReleasesAreBounded
one-release_sum-le pair incoming gross is =
    omega (
      arith,
      ap sum (one-release pair incoming gross),
      sum-map (release_at pair incoming gross) (range_with_len 0 (length gross)),
      releases-le pair incoming gross is,
    )

-- what holds of each period holds of each element of the row
pub all_periods : (P : ℕ → Type 0) (f : ℕ → ℕ) (n : ℕ) (row : List ℕ) → row ≡ map f (range_with_len 0 n) → ((k : ℕ) → k < n → P (f k)) → All P row
all_periods P f n row e each k d h =
    let len : length row ≡ n = ap length e ∙ length-map-range_with_len f 0 n in
    let below : k < n = omega arith in
    let read : get_or row k d ≡ f k = ap (λ (xs : List ℕ). get_or xs k d) e ∙ get_or-map-range_with_len f 0 n k k d below (omega arith) in
    subst P (sym read) (each k below)

pub one-available-ge : AvailableCoversSafety
one-available-ge pair incoming gross is =
    all_periods (λ stock. pair.safety ≤ stock) (λ t. balance_before pair incoming gross (suc t)) (length gross) _ (one-available pair incoming gross)
    (λ t h. safety-le-balance_before pair incoming gross t is h)

pub sum_range-ge : (f : ℕ → ℕ) (n k : ℕ) → k < n → f k ≤ sum_by f (range_with_len 0 n)
sum_range-ge f n k h =
    let part = get_or-le-sum_by f (range_with_len 0 n) k 0 (omega (arith, length-range_with_len 0 n)) in
    let at = ap f (get_or-range_with_len 0 n k 0 h) in
    let same : f (0 + k) ≡ f k = ap f (omega arith) in
    omega (arith, part, at, same)

pub one-within : RowsStayWithin
one-within pair incoming gross is =
    let n = length gross in (
      all_periods (λ q. q ≤ MOST) (order_at pair incoming gross) n _ (one-order pair incoming gross)
          (λ t h. omega (arith, sum_range-ge (order_at pair incoming gross) n t h, orders-le pair incoming gross n is (omega arith), is.total)),
      all_periods (λ q. q ≤ MOST) (release_at pair incoming gross) n _ (one-release pair incoming gross)
          (λ t h. omega (arith, sum_range-ge (release_at pair incoming gross) n t h, releases-le pair incoming gross is, is.total)),
      all_periods (λ q. q ≤ MOST) (λ t. balance_before pair incoming gross (suc t)) n _ (one-available pair incoming gross)
          (λ t h. omega (arith, balance_before-le pair incoming gross (suc t) is (omega arith), is.total)),
    )
