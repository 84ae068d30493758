-- The plan of the whole network: laws of its orders. Firm and planned they are the releases, each is listed once, and
-- those that are late are the late orders.
use Rattle.std.specs.Prelude.{◌≡◌, ℕ, ◌+◌, ◌<◌, ◌==◌, nat_lt, Bool, true, false, not, List, [], map, filter, sum_by}
use Rattle.std.specs.Prelude.{slice_index, IsPermutation}
use Rattle.mrp_netting.specs.PlanRows.{PlanRows}
use Rattle.mrp_netting.specs.declared.params.Late.{Late}
use Rattle.mrp_master_data.specs.Table.{Table, IsTable, IsPair, horizon}
use Rattle.mrp_net.specs.FirmOrders.{firm_start, firms_of}
use Rattle.mrp_net.specs.Plan.{rows_at}
use Rattle.mrp_net.specs.PlanLaws.{Fits}
use Rattle.mrp_plan.specs.declared.orders.OrderSort.{OrderSort}
use Rattle.mrp_plan.specs.declared.orders.OrderSort.TheVariants.{Firm, Planned}
use Rattle.mrp_plan.specs.declared.orders.PlannedOrder.{PlannedOrder}
use Rattle.mrp_plan.specs.Orders.{firm_order, order_of_plan, orders_of, listed_orders}

-- the orders of a pair that are released in a period, firm and planned, add up to its release there
abbrev pub OrdersMakeReleases : Type 0
OrdersMakeReleases = (N : Table) → IsTable N → (table : List PlanRows) → Fits N table → (x r : ℕ) → IsPair N x → r < horizon N
    → sum_by (λ l. l.order.quantity) (filter (λ l. l.order.release == r) (listed_orders N table x))
    ≡ slice_index (rows_at table x).release r

-- and so do its planned orders, with the firm planned orders of the period
abbrev pub PlannedOrdersMakeReleases : Type 0
PlannedOrdersMakeReleases = (N : Table) (table : List PlanRows) → Fits N table → (x r : ℕ) → IsPair N x → r < horizon N
    → firm_start N x r + sum_by (λ o. o.quantity) (filter (λ o. o.release == r) (orders_of N table x))
    ≡ slice_index (rows_at table x).release r

-- the late order that a planned order is
abbrev pub late_of : PlannedOrder → Late
late_of o = record { period = o.due; quantity = o.quantity; by = o.late }

-- the planned orders of a pair to which periods are missing are its late orders, in their order
abbrev pub LateOrdersAreOrders : Type 0
LateOrdersAreOrders = (N : Table) (table : List PlanRows) → Fits N table → (x : ℕ) → IsPair N x
    → map late_of (filter (λ o. nat_lt 0 o.late) (orders_of N table x)) ≡ (rows_at table x).late

-- and no other order is late
abbrev pub LateOrdersAreListed : Type 0
LateOrdersAreListed = (N : Table) (table : List PlanRows) → Fits N table → (x : ℕ) → IsPair N x
    → map (λ l. late_of l.order) (filter (λ l. nat_lt 0 l.order.late) (listed_orders N table x)) ≡ (rows_at table x).late

-- in any table of plans the listed orders that are late are the planned orders that are, in their order
abbrev pub LateOrdersArePlanned : Type 0
LateOrdersArePlanned = (N : Table) (table : List PlanRows) (x : ℕ)
    → filter (λ l. nat_lt 0 l.order.late) (listed_orders N table x)
    ≡ map order_of_plan (filter (λ o. nat_lt 0 o.late) (orders_of N table x))

-- planners set the order
abbrev pub is_firm : OrderSort → Bool
is_firm Firm = true
is_firm Planned = false

-- each firm planned order of a pair is listed once
abbrev pub FirmOrdersAreListed : Type 0
FirmOrdersAreListed = (N : Table) → IsTable N → (table : List PlanRows) (x : ℕ)
    → IsPermutation (map firm_order (firms_of N x)) (filter (λ l. is_firm l.sort) (listed_orders N table x))

-- and so is each planned order, in rising due period
abbrev pub PlannedOrdersAreListed : Type 0
PlannedOrdersAreListed = (N : Table) (table : List PlanRows) (x : ℕ)
    → filter (λ l. not (is_firm l.sort)) (listed_orders N table x) ≡ map order_of_plan (orders_of N table x)

-- a pair without firm planned orders has no others
abbrev pub NoFirmOrders : Type 0
NoFirmOrders = (N : Table) (table : List PlanRows) (x : ℕ) → firms_of N x ≡ []
    → listed_orders N table x ≡ map order_of_plan (orders_of N table x)
