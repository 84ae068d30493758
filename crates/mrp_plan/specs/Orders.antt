-- The plan of the whole network: orders of a pair in it, firm and planned, what is ordered, when it
-- is due, and when it is released.
use Rattle.std.specs.Prelude.{ℕ, ◌-◌, ◌==◌, nat_le, max, Bool, true, not, if◌then◌else◌, List, [], ◌∷◌, ◌++◌, map, filter}
use Rattle.std.specs.Prelude.{slice_index}
use Rattle.std.specs.Prelude.{Option, Some, None}
use Rattle.std.specs.List.{flat_map, range_with_len}
use Rattle.mrp_netting.specs.PlanRows.{PlanRows}
use Rattle.mrp_master_data.specs.declared.rows.FirmRow.{FirmRow}
use Rattle.mrp_master_data.specs.Table.{Table, horizon}
use Rattle.mrp_net.specs.FirmOrders.{firms_of}
use Rattle.mrp_net.specs.Plan.{rows_at}
use Rattle.mrp_net.specs.Sums.{earliest_at, params_at}
use Rattle.mrp_plan.specs.declared.orders.ListedOrder.{ListedOrder}
use Rattle.mrp_plan.specs.declared.orders.OrderSort.TheVariants.{Firm, Planned}
use Rattle.mrp_plan.specs.declared.orders.PlannedOrder.{PlannedOrder}

-- the planned order receipt of a period as an order: it is due there, and is released a lead time before it, or before
-- the earliest period in which planned orders can come in, where that is later; then so many periods are missing
-- (subtraction of ℕ stops at 0)
abbrev pub planned_order : ℕ → ℕ → PlanRows → ℕ → PlannedOrder
planned_order lead earliest rows t = record {
  quantity = slice_index rows.order t;
  due = t;
  release = max t earliest - lead;
  late = earliest - t;
}

-- something is ordered that is due in the period
abbrev pub has_order : PlanRows → ℕ → Bool
has_order rows t = not (slice_index rows.order t == 0)

-- the order that is due in the period, where there is one
abbrev pub order_in : ℕ → ℕ → PlanRows → ℕ → Option PlannedOrder
order_in lead earliest rows t = if has_order rows t then Some (planned_order lead earliest rows t) else None

-- the planned orders of a pair, in rising due period
abbrev pub orders_of : Table → List PlanRows → ℕ → List PlannedOrder
orders_of N table x =
    map (planned_order (params_at N x).lead (earliest_at N x) (rows_at table x))
    (filter (has_order (rows_at table x)) (range_with_len 0 (horizon N)))

-- the order is released in that period or before it; without a period every order is
abbrev pub is_released_by : Option ℕ → PlannedOrder → Bool
is_released_by None order = true
is_released_by (Some until) order = nat_le order.release until

-- ---- firm planned orders beside them

-- a firm planned order as it is listed: planners set its periods, and it is never late
abbrev pub firm_order : FirmRow → ListedOrder
firm_order f = record { sort = Firm; order = record { quantity = f.quantity; due = f.due; release = f.start; late = 0 } }

-- and an order of the plan
abbrev pub order_of_plan : PlannedOrder → ListedOrder
order_of_plan order = record { sort = Planned; order = order }

-- the orders of a pair that are due in a period: its firm planned orders in table order, then the planned order
abbrev pub orders_due : List FirmRow → ℕ → ℕ → PlanRows → ℕ → List ListedOrder
orders_due firms lead earliest rows t =
    map firm_order (filter (λ f. f.due == t) firms)
    ++ (if has_order rows t then order_of_plan (planned_order lead earliest rows t) ∷ [] else [])

-- all orders of a pair, in rising due period
abbrev pub listed_orders : Table → List PlanRows → ℕ → List ListedOrder
listed_orders N table x =
    flat_map (orders_due (firms_of N x) (params_at N x).lead (earliest_at N x) (rows_at table x))
    (range_with_len 0 (horizon N))

-- those that are released by then
abbrev pub listed_by : Option ℕ → Table → List PlanRows → ℕ → List ListedOrder
listed_by until N table x = filter (λ l. is_released_by until l.order) (listed_orders N table x)
