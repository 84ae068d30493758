-- The plan of the whole network: its orders listed, firm and planned. They make the releases, are each listed once,
-- and those that are late are the late orders.
use Rattle.std.proofs.Common.{◌≡◌, ℕ, ◌+◌, ◌-◌, ◌<◌, ◌==◌, Bool, true, false, not, cond, ltb, max, List, [], ◌∷◌, ◌++◌, map, slice_index, arith, ap, ◌∙◌}
use Rattle.std.proofs.Common.{refl, sym, subst}
use Rattle.std.specs.List.{All, filter, flat_map, range_with_len, sum_by}
use Rattle.std.specs.List.Sorted.{IsPermutation}
use Rattle.std.proofs.lemmas.Bool.{cond_both}
use Rattle.std.proofs.lemmas.List.Elements.{All-head, All-tail, filter-append}
use Rattle.std.proofs.lemmas.List.{append-nil}
use Rattle.std.proofs.lemmas.List.Sorted.{IsPermutation-map}
use Rattle.std.proofs.lemmas.List.Sums.{sum_by-append, sum_by-cons}
use Rattle.mrp_grouping.specs.Groups.{sorted_by}
use Rattle.mrp_grouping.proofs.Kept.{IsPermutation-sorted_by}
use Rattle.mrp_qty.proofs.RangeLaws.{placed_once, sum_by-add, sum_by-none, sum_by-ext}
use Rattle.mrp_netting.specs.PlanRows.{PlanRows}
use Rattle.mrp_netting.specs.declared.params.Late.{Late}
use Rattle.mrp_master_data.specs.declared.rows.FirmRow.{FirmRow}
use Rattle.mrp_master_data.specs.Table.{horizon}
use Rattle.mrp_net.specs.FirmOrders.{firms_of}
use Rattle.mrp_net.specs.Plan.{rows_at}
use Rattle.mrp_net.specs.Sums.{earliest_at, params_at}
use Rattle.mrp_net.proofs.Firms.{dues_within}
use Rattle.mrp_plan.specs.Orders.{firm_order, has_order, order_of_plan, orders_due, orders_of, planned_order}
use Rattle.mrp_plan.specs.OrderLaws.{FirmOrdersAreListed, LateOrdersAreListed, LateOrdersArePlanned, NoFirmOrders, OrdersMakeReleases}
use Rattle.mrp_plan.specs.OrderLaws.{PlannedOrdersAreListed, is_firm, late_of}
use Rattle.mrp_plan.specs.declared.orders.ListedOrder.{ListedOrder}
use Rattle.mrp_plan.specs.declared.orders.PlannedOrder.{PlannedOrder}
use Rattle.mrp_plan.proofs.Ordering.{late_orders_are_orders, none_ordered, pair_release}
use Rattle.mrp_plan.proofs.Releasing.{part_in}

-- ---- releases

abbrev quantity_of : ListedOrder → ℕ
quantity_of l = l.order.quantity

abbrev released_then : ℕ → ListedOrder → Bool
released_then r l = l.order.release == r

-- what a firm planned order adds to the release of a period, and that where it is due in another
abbrev firm_in : ℕ → FirmRow → ℕ
firm_in r f = cond (f.start == r) f.quantity 0

abbrev firm_part : ℕ → ℕ → FirmRow → ℕ
firm_part r t f = cond (f.due == t) (firm_in r f) 0

firms_released : (r t : ℕ) (firms : List FirmRow)
    → sum_by quantity_of (filter (released_then r) (map firm_order (filter (λ f. f.due == t) firms))) ≡ sum_by (firm_part r t) firms
firms_released r t [] = refl
firms_released r t (f ∷ fs) =
    let due : FirmRow → Bool = λ g. g.due == t in
    let more = map firm_order (filter due fs) in
    let rest : sum_by quantity_of (filter (released_then r) more) ≡ sum_by (firm_part r t) fs = firms_released r t fs in
    let whole = sum_by-cons (firm_part r t) f fs in
    cond_both (f.due == t) (f ∷ filter due fs) (filter due fs)
    (λ l. sum_by quantity_of (filter (released_then r) (map firm_order l)) ≡ sum_by (firm_part r t) (f ∷ fs))
    (λ comes.
    cond_both (f.start == r) (firm_order f ∷ filter (released_then r) more) (filter (released_then r) more)
    (λ l. sum_by quantity_of l ≡ sum_by (firm_part r t) (f ∷ fs))
    (λ here.
    let is : firm_part r t f ≡ f.quantity = ap (λ b. cond b (firm_in r f) 0) comes ∙ ap (λ b. cond b f.quantity 0) here in
    omega (arith, rest, whole, is, sum_by-cons quantity_of (firm_order f) (filter (released_then r) more)))
    (λ other.
    let is : firm_part r t f ≡ 0 = ap (λ b. cond b (firm_in r f) 0) comes ∙ ap (λ b. cond b f.quantity 0) other in
    omega (arith, rest, whole, is)))
    (λ free.
    let is : firm_part r t f ≡ 0 = ap (λ b. cond b (firm_in r f) 0) free in
    omega (arith, rest, whole, is))

-- the planned order of a period
planned_released : (lead e r : ℕ) (rows : PlanRows) (t : ℕ)
    → sum_by quantity_of (filter (released_then r) (cond (has_order rows t) (order_of_plan (planned_order lead e rows t) ∷ []) []))
    ≡ part_in lead e rows.order r t
planned_released lead e r rows t =
    let order = order_of_plan (planned_order lead e rows t) in
    cond_both (has_order rows t) (order ∷ []) [] (λ l. sum_by quantity_of (filter (released_then r) l) ≡ part_in lead e rows.order r t)
    (λ ordered.
    cond_both ((max t e - lead) == r) (order ∷ []) [] (λ l. sum_by quantity_of l ≡ part_in lead e rows.order r t)
    (λ here.
    let is : part_in lead e rows.order r t ≡ slice_index rows.order t = ap (λ b. cond b (slice_index rows.order t) 0) here in
    omega (arith, is, sum_by-cons quantity_of order []))
    (λ other.
    let is : part_in lead e rows.order r t ≡ 0 = ap (λ b. cond b (slice_index rows.order t) 0) other in
    omega (arith, is)))
    (λ free. omega (arith, none_ordered lead e r rows t free))

-- the orders of the periods
listed_released : (lead e r : ℕ) (rows : PlanRows) (firms : List FirmRow) (ts : List ℕ)
    → sum_by quantity_of (filter (released_then r) (flat_map (orders_due firms lead e rows) ts))
    ≡ sum_by (λ t. sum_by (firm_part r t) firms) ts + sum_by (part_in lead e rows.order r) ts
listed_released lead e r rows firms [] = refl
listed_released lead e r rows firms (t ∷ ts) =
    let test = released_then r in
    let firm = map firm_order (filter (λ (f : FirmRow). f.due == t) firms) in
    let planned : List ListedOrder = cond (has_order rows t) (order_of_plan (planned_order lead e rows t) ∷ []) [] in
    let later = flat_map (orders_due firms lead e rows) ts in
    let split : filter test ((firm ++ planned) ++ later) ≡ (filter test firm ++ filter test planned) ++ filter test later =
    filter-append test (firm ++ planned) later ∙ ap (λ (l : List ListedOrder). l ++ filter test later) (filter-append test firm planned) in
    let all = ap (λ (l : List ListedOrder). sum_by quantity_of l) split in
    let firmly : sum_by quantity_of (filter test firm) ≡ sum_by (firm_part r t) firms = firms_released r t firms in
    let ordered : sum_by quantity_of (filter test planned) ≡ part_in lead e rows.order r t = planned_released lead e r rows t in
    let rest : sum_by quantity_of (filter test later) ≡ sum_by (λ u. sum_by (firm_part r u) firms) ts + sum_by (part_in lead e rows.order r) ts =
    listed_released lead e r rows firms ts in
    omega (
      arith,
      all,
      sum_by-append quantity_of (filter test firm ++ filter test planned) (filter test later),
      sum_by-append quantity_of (filter test firm) (filter test planned),
      firmly,
      ordered,
      rest,
      sum_by-cons (λ u. sum_by (firm_part r u) firms) t ts,
      sum_by-cons (part_in lead e rows.order r) t ts,
    )

-- each firm planned order is due in one period of the horizon
by_due : (r n : ℕ) (firms : List FirmRow) → All (λ f. f.due < n) firms
    → sum_by (λ t. sum_by (firm_part r t) firms) (range_with_len 0 n) ≡ sum_by (firm_in r) firms
by_due r n [] below = sum_by-none (range_with_len 0 n)
by_due r n (f ∷ fs) below =
    omega (
      arith,
      sum_by-ext (λ t. sum_by (firm_part r t) (f ∷ fs)) (λ t. firm_part r t f + sum_by (firm_part r t) fs) (range_with_len 0 n)
          (λ t. sum_by-cons (firm_part r t) f fs),
      sum_by-add (λ t. firm_part r t f) (λ t. sum_by (firm_part r t) fs) (range_with_len 0 n),
      placed_once (firm_in r f) f.due n (All-head (λ (g : FirmRow). g.due < n) f fs below),
      by_due r n fs (All-tail (λ (g : FirmRow). g.due < n) f fs below),
      sum_by-cons (firm_in r) f fs,
    )

pub orders_make_releases : OrdersMakeReleases
orders_make_releases N is table fits x r in_table within =
    omega (
      arith,
      listed_released (params_at N x).lead (earliest_at N x) r (rows_at table x) (firms_of N x) (range_with_len 0 (horizon N)),
      by_due r (horizon N) (firms_of N x) (dues_within N x is),
      pair_release N table fits x r in_table within,
    )

-- ---- the orders that pass a test

-- which no firm planned order passes, or where no period has a firm one: those are the planned orders that pass
abbrev due_then : ℕ → FirmRow → Bool
due_then t f = f.due == t

one_more : (test : ListedOrder → Bool) (has : Bool) (order : ℕ → PlannedOrder) (t : ℕ) (us : List ℕ) (later : List ListedOrder)
    → filter test later ≡ map order_of_plan (filter (λ o. test (order_of_plan o)) (map order us))
    → filter test (cond has (order_of_plan (order t) ∷ []) []) ++ filter test later
    ≡ map order_of_plan (filter (λ o. test (order_of_plan o)) (map order (cond has (t ∷ us) us)))
one_more test false order t us later rest = rest
one_more test true order t us later rest = kept (test (order_of_plan (order t)))
  where
    kept : (passes : Bool) → cond passes (order_of_plan (order t) ∷ []) [] ++ filter test later
        ≡ map order_of_plan
        (cond passes (order t ∷ filter (λ o. test (order_of_plan o)) (map order us)) (filter (λ o. test (order_of_plan o)) (map order us)))
    kept true = ap (λ (l : List ListedOrder). order_of_plan (order t) ∷ l) rest
    kept false = rest

passing : (test : ListedOrder → Bool) (lead e : ℕ) (rows : PlanRows) (firms : List FirmRow)
    → ((t : ℕ) → filter test (map firm_order (filter (due_then t) firms)) ≡ []) → (ts : List ℕ)
    → filter test (flat_map (orders_due firms lead e rows) ts)
    ≡ map order_of_plan (filter (λ o. test (order_of_plan o)) (map (planned_order lead e rows) (filter (has_order rows) ts)))
passing test lead e rows firms none [] = refl
passing test lead e rows firms none (t ∷ ts) =
    let due = map firm_order (filter (due_then t) firms) in
    let planned : List ListedOrder = cond (has_order rows t) (order_of_plan (planned_order lead e rows t) ∷ []) [] in
    let later = flat_map (orders_due firms lead e rows) ts in
    filter-append test (due ++ planned) later
    ∙ ap (λ (l : List ListedOrder). l ++ filter test later)
    (filter-append test due planned ∙ ap (λ (l : List ListedOrder). l ++ filter test planned) (none t))
    ∙ one_more test (has_order rows t) (planned_order lead e rows) t (filter (has_order rows) ts) later (passing test lead e rows firms none ts)

-- ---- late orders

abbrev is_late : ListedOrder → Bool
is_late l = ltb 0 l.order.late

none_late : (firms : List FirmRow) → filter is_late (map firm_order firms) ≡ []
none_late [] = refl
none_late (f ∷ fs) = none_late fs

pub late_orders_are_planned : LateOrdersArePlanned
late_orders_are_planned N table x =
    passing is_late (params_at N x).lead (earliest_at N x) (rows_at table x) (firms_of N x) (λ t. none_late (filter (due_then t) (firms_of N x)))
    (range_with_len 0 (horizon N))

lates_of : (orders : List PlannedOrder) → map (λ (l : ListedOrder). late_of l.order) (map order_of_plan orders) ≡ map late_of orders
lates_of [] = refl
lates_of (o ∷ os) = ap (λ (l : List Late). late_of o ∷ l) (lates_of os)

pub late_orders_are_listed : LateOrdersAreListed
late_orders_are_listed N table fits x in_table =
    ap (map (λ (l : ListedOrder). late_of l.order)) (late_orders_are_planned N table x)
    ∙ lates_of (filter (λ o. ltb 0 o.late) (orders_of N table x)) ∙ late_orders_are_orders N table fits x in_table

-- ---- each is listed once

abbrev is_planned : ListedOrder → Bool
is_planned l = not (is_firm l.sort)

none_planned : (firms : List FirmRow) → filter is_planned (map firm_order firms) ≡ []
none_planned [] = refl
none_planned (f ∷ fs) = none_planned fs

all_kept : (orders : List PlannedOrder) → filter (λ (o : PlannedOrder). true) orders ≡ orders
all_kept [] = refl
all_kept (o ∷ os) = ap (λ (l : List PlannedOrder). o ∷ l) (all_kept os)

pub planned_orders_are_listed : PlannedOrdersAreListed
planned_orders_are_listed N table x =
    passing is_planned (params_at N x).lead (earliest_at N x) (rows_at table x) (firms_of N x) (λ t. none_planned (filter (due_then t) (firms_of N x)))
    (range_with_len 0 (horizon N))
    ∙ ap (map order_of_plan) (all_kept (orders_of N table x))

-- without firm planned orders they are all
every_one : (orders : List ListedOrder) → filter (λ (l : ListedOrder). true) orders ≡ orders
every_one [] = refl
every_one (l ∷ ls) = ap (λ (rest : List ListedOrder). l ∷ rest) (every_one ls)

pub no_firm_orders : NoFirmOrders
no_firm_orders N table x none =
    let lead = (params_at N x).lead in
    let e = earliest_at N x in
    let rows = rows_at table x in
    let periods = range_with_len 0 (horizon N) in
    ap (λ (firms : List FirmRow). flat_map (orders_due firms lead e rows) periods) none
    ∙ sym (every_one (flat_map (orders_due [] lead e rows) periods))
    ∙ passing (λ l. true) lead e rows [] (λ t. refl) periods
    ∙ ap (map order_of_plan) (all_kept (orders_of N table x))

-- and the firm ones are those of each due period
abbrev firmly : ListedOrder → Bool
firmly l = is_firm l.sort

all_firm : (firms : List FirmRow) → filter firmly (map firm_order firms) ≡ map firm_order firms
all_firm [] = refl
all_firm (f ∷ fs) = ap (λ (l : List ListedOrder). firm_order f ∷ l) (all_firm fs)

not_firm : (has : Bool) (order : PlannedOrder) → filter firmly (cond has (order_of_plan order ∷ []) []) ≡ []
not_firm true order = refl
not_firm false order = refl

maps_append : (xs ys : List FirmRow) → map firm_order (xs ++ ys) ≡ map firm_order xs ++ map firm_order ys
maps_append [] ys = refl
maps_append (x ∷ xs) ys = ap (λ (l : List ListedOrder). firm_order x ∷ l) (maps_append xs ys)

firm_ones : (lead e : ℕ) (rows : PlanRows) (firms : List FirmRow) (ts : List ℕ)
    → filter firmly (flat_map (orders_due firms lead e rows) ts) ≡ map firm_order (flat_map (λ t. filter (due_then t) firms) ts)
firm_ones lead e rows firms [] = refl
firm_ones lead e rows firms (t ∷ ts) =
    let mine = filter (due_then t) firms in
    let due = map firm_order mine in
    let planned : List ListedOrder = cond (has_order rows t) (order_of_plan (planned_order lead e rows t) ∷ []) [] in
    let later = flat_map (orders_due firms lead e rows) ts in
    let here : filter firmly (due ++ planned) ≡ due =
    filter-append firmly due planned ∙ ap (λ (l : List ListedOrder). l ++ filter firmly planned) (all_firm mine)
    ∙ ap (λ (l : List ListedOrder). due ++ l) (not_firm (has_order rows t) (planned_order lead e rows t)) ∙ append-nil due in
    filter-append firmly (due ++ planned) later
    ∙ ap (λ (l : List ListedOrder). l ++ filter firmly later) here
    ∙ ap (λ (l : List ListedOrder). due ++ l) (firm_ones lead e rows firms ts)
    ∙ sym (maps_append mine (flat_map (λ t. filter (due_then t) firms) ts))

pub firm_orders_are_listed : FirmOrdersAreListed
firm_orders_are_listed N is table x =
    let due : FirmRow → ℕ = λ f. f.due in
    let firms = firms_of N x in
    let sorted = sorted_by due (horizon N) firms in
    subst (IsPermutation (map firm_order firms))
    (sym (firm_ones (params_at N x).lead (earliest_at N x) (rows_at table x) firms (range_with_len 0 (horizon N))))
    (IsPermutation-map firm_order firms sorted (IsPermutation-sorted_by due (horizon N) firms (dues_within N x is)))
