-- The plan of the whole network: planned orders, with the firm planned ones, make its releases, and those
-- that are late are the late orders.
use Rattle.std.proofs.Common.{◌≡◌, ℕ, ◌+◌, ◌-◌, ◌<◌, ◌==◌, ◌&&◌, Bool, true, false, not, cond, ltb, max, List, [], ◌∷◌, length, map, slice_index, arith, ap, ◌∙◌, sym}
use Rattle.std.proofs.Common.{refl, subst}
use Rattle.std.specs.List.{filter, range_with_len, sum_by}
use Rattle.std.proofs.lemmas.Bool.{and_from, and_left, and_right, cond_both, eqb-true, eq-eqb, le-ltb, lt-ltb, ltb-false, ltb-true, true≢false}
use Rattle.std.proofs.lemmas.List.FromFn.{get_or-map-range_with_len, length-map-range_with_len}
use Rattle.std.proofs.lemmas.List.Sums.{sum_by-cons}
use Rattle.mrp_netting.specs.PlanRows.{PlanRows, is_late, late_order}
use Rattle.mrp_netting.specs.PlanningData.{planned_release, release_at, one}
use Rattle.mrp_netting.specs.declared.params.Late.{Late}
use Rattle.mrp_netting.proofs.OneRows.{length-one-order, one-late, one-release}
use Rattle.mrp_master_data.specs.Table.{Table, IsPair, horizon}
use Rattle.mrp_net.specs.FirmOrders.{firm_start}
use Rattle.mrp_net.specs.Plan.{gross, pair_data, pair_plan, rows_at}
use Rattle.mrp_net.specs.PlanLaws.{Fits}
use Rattle.mrp_net.specs.Sums.{earliest_at, params_at, row_of}
use Rattle.mrp_plan.proofs.Releasing.{part_in, released_together}
use Rattle.mrp_plan.specs.Orders.{has_order, planned_order}
use Rattle.mrp_plan.specs.OrderLaws.{LateOrdersAreOrders, PlannedOrdersMakeReleases, late_of}
use Rattle.mrp_plan.specs.declared.orders.PlannedOrder.{PlannedOrder}

-- ---- whether a period has an order

nothing : (n : ℕ) → not (n == 0) ≡ false → n ≡ 0
nothing n e = eqb-true n 0 (turned (n == 0) e)
  where
    turned : (b : Bool) → not b ≡ false → b ≡ true
    turned true e = refl
    turned false e = absurd (cc)

something : (n : ℕ) → not (n == 0) ≡ true → 0 < n
something n e =
    let turned : (b : Bool) → not b ≡ true → b ≡ true → ⊥ = λ b f t. true≢false (sym f ∙ ap not t) in
    let some : n ≡ 0 → ⊥ = λ z. turned (n == 0) e (eq-eqb n 0 z) in
    omega arith

-- ---- releases

abbrev quantity_of : PlannedOrder → ℕ
quantity_of o = o.quantity

pub none_ordered : (lead e r : ℕ) (rows : PlanRows) (t : ℕ) → has_order rows t ≡ false → part_in lead e rows.order r t ≡ 0
none_ordered lead e r rows t free =
    let none : slice_index rows.order t ≡ 0 = nothing (slice_index rows.order t) free in
    cond_both ((max t e - lead) == r) (slice_index rows.order t) 0 (λ n. n ≡ 0) (λ here. none) (λ other. refl)

released_in : (lead e r : ℕ) (rows : PlanRows) (ts : List ℕ)
    → sum_by quantity_of (filter (λ o. o.release == r) (map (planned_order lead e rows) (filter (has_order rows) ts)))
    ≡ sum_by (part_in lead e rows.order r) ts
released_in lead e r rows [] = refl
released_in lead e r rows (t ∷ ts) =
    let part = part_in lead e rows.order r in
    let test : PlannedOrder → Bool = λ o. o.release == r in
    let more = map (planned_order lead e rows) (filter (has_order rows) ts) in
    let rest : sum_by quantity_of (filter test more) ≡ sum_by part ts = released_in lead e r rows ts in
    let whole = sum_by-cons part t ts in
    cond_both (has_order rows t) (t ∷ filter (has_order rows) ts) (filter (has_order rows) ts)
    (λ l. sum_by quantity_of (filter test (map (planned_order lead e rows) l)) ≡ sum_by part (t ∷ ts))
    (λ ordered.
    cond_both ((max t e - lead) == r) (planned_order lead e rows t ∷ filter test more) (filter test more) (λ l. sum_by quantity_of l ≡ sum_by part (t ∷ ts))
    (λ here.
    let is : part t ≡ slice_index rows.order t = ap (λ b. cond b (slice_index rows.order t) 0) here in
    omega (arith, rest, whole, is, sum_by-cons quantity_of (planned_order lead e rows t) (filter test more)))
    (λ other.
    let is : part t ≡ 0 = ap (λ b. cond b (slice_index rows.order t) 0) other in
    omega (arith, rest, whole, is)))
    (λ free.
    let is : part t ≡ 0 = none_ordered lead e r rows t free in
    omega (arith, rest, whole, is))

-- what the plan of a pair releases: firm planned orders and planned orders
one_release : (N : Table) (table : List PlanRows) (x r : ℕ) → r < horizon N
    → slice_index (pair_plan N table x).release r
    ≡ firm_start N x r + sum_by (part_in (params_at N x).lead (earliest_at N x) (pair_plan N table x).order r) (range_with_len 0 (horizon N))
one_release N table x r within =
    let d = pair_data N table x in
    let part = part_in (params_at N x).lead (earliest_at N x) (one d).order r in
    let order = (one d).order in
    let periods = length-map-range_with_len (gross N table x) 0 (horizon N) in
    let size : length order ≡ horizon N = length-one-order d ∙ periods in
    let released : planned_release d order r ≡ sum_by part (range_with_len 0 (horizon N)) =
    released_together d order r ∙ ap (λ m. sum_by part (range_with_len 0 m)) size in
    let firmly : slice_index (row_of N (firm_start N x)) r ≡ firm_start N x r =
    get_or-map-range_with_len (firm_start N x) 0 (horizon N) r r 0 within (omega arith) in
    let read : slice_index (pair_plan N table x).release r ≡ slice_index (row_of N (firm_start N x)) r + planned_release d order r =
    ap (λ (row : List ℕ). slice_index row r) (one-release d)
    ∙ get_or-map-range_with_len (release_at d order) 0 (length d.gross) r r 0 (omega (arith, periods, within)) (omega arith) in
    omega (arith, read, firmly, released)

-- so a plan that fits releases
pub pair_release : (N : Table) (table : List PlanRows) → Fits N table → (x r : ℕ) → IsPair N x → r < horizon N
    → slice_index (rows_at table x).release r
    ≡ firm_start N x r + sum_by (part_in (params_at N x).lead (earliest_at N x) (rows_at table x).order r) (range_with_len 0 (horizon N))
pair_release N table fits x r in_table within =
    let P : PlanRows → Type 0 = λ rows. slice_index rows.release r
    ≡ firm_start N x r + sum_by (part_in (params_at N x).lead (earliest_at N x) rows.order r) (range_with_len 0 (horizon N)) in
    subst P (sym (fits.rows x in_table)) (one_release N table x r within)

pub planned_orders_make_releases : PlannedOrdersMakeReleases
planned_orders_make_releases N table fits x r in_table within =
    omega (
      arith,
      released_in (params_at N x).lead (earliest_at N x) r (rows_at table x) (range_with_len 0 (horizon N)),
      pair_release N table fits x r in_table within,
    )

-- ---- late orders

-- an order that is due before the earliest period in which one can come in
late_yes : (e order t : ℕ) → 0 < order → ltb 0 (e - t) ≡ true → (ltb t e && ltb 0 order) ≡ true
late_yes e order t some is = let before = ltb-true 0 (e - t) is in and_from (ltb t e) (ltb 0 order) (lt-ltb t e (omega arith)) (lt-ltb 0 order some)

late_no : (e order t : ℕ) → ltb 0 (e - t) ≡ false → (ltb t e && ltb 0 order) ≡ false
late_no e order t is = let after = ltb-false 0 (e - t) is in and_left (ltb t e) (ltb 0 order) (le-ltb t e (omega arith))

late_free : (e order t : ℕ) → order ≡ 0 → (ltb t e && ltb 0 order) ≡ false
late_free e order t none = and_right (ltb t e) (ltb 0 order) (le-ltb 0 order (omega arith))

late_in : (lead e : ℕ) (rows : PlanRows) (ts : List ℕ)
    → map late_of (filter (λ o. ltb 0 o.late) (map (planned_order lead e rows) (filter (has_order rows) ts)))
    ≡ map (late_order e rows.order) (filter (is_late e rows.order) ts)
late_in lead e rows [] = refl
late_in lead e rows (t ∷ ts) =
    let test : PlannedOrder → Bool = λ o. ltb 0 o.late in
    let more = map (planned_order lead e rows) (filter (has_order rows) ts) in
    let later = filter (is_late e rows.order) ts in
    let kept : Bool → List Late = λ b. map (late_order e rows.order) (cond b (t ∷ later) later) in
    let rest : map late_of (filter test more) ≡ map (late_order e rows.order) later = late_in lead e rows ts in
    cond_both (has_order rows t) (t ∷ filter (has_order rows) ts) (filter (has_order rows) ts)
    (λ l. map late_of (filter test (map (planned_order lead e rows) l)) ≡ kept (is_late e rows.order t))
    (λ ordered.
    cond_both (ltb 0 (e - t)) (planned_order lead e rows t ∷ filter test more) (filter test more) (λ l. map late_of l ≡ kept (is_late e rows.order t))
    (λ yes.
    ap (λ (l : List Late). late_order e rows.order t ∷ l) rest
    ∙ sym (ap kept (late_yes e (slice_index rows.order t) t (something (slice_index rows.order t) ordered) yes)))
    (λ no_. rest ∙ sym (ap kept (late_no e (slice_index rows.order t) t no_))))
    (λ free. rest ∙ sym (ap kept (late_free e (slice_index rows.order t) t (nothing (slice_index rows.order t) free))))

pub late_orders_are_orders : LateOrdersAreOrders
late_orders_are_orders N table fits x in_table =
    let d = pair_data N table x in
    let e = earliest_at N x in
    let is : PlanRows → Type 0 = λ rows. rows.late ≡ map (late_order e rows.order) (filter (is_late e rows.order) (range_with_len 0 (horizon N))) in
    let size = length-one-order d ∙ length-map-range_with_len (gross N table x) 0 (horizon N) in
    let plan : is (pair_plan N table x) =
    one-late d
    ∙ ap (λ m. map (late_order e (one d).order) (filter (is_late e (one d).order) (range_with_len 0 m))) size in
    late_in (params_at N x).lead e (rows_at table x) (range_with_len 0 (horizon N)) ∙ sym (subst is (sym (fits.rows x in_table)) plan)
