-- The report of orders: the rows of one pair, due period by due period.
use Rattle.std.specs.Prelude.{◌≡◌, ℕ, ◌<◌, ◌==◌, if◌then◌else◌, List, [], ◌++◌, length, Option}
use Rattle.std.specs.List.{flat_map, range_with_len}
use Rattle.mrp_netting.specs.PlanRows.{PlanRows}
use Rattle.mrp_master_data.specs.declared.rows.FirmRow.{FirmRow}
use Rattle.mrp_master_data.specs.Table.{Table}
use Rattle.mrp_net.specs.FirmOrders.{firms_of}
use Rattle.mrp_net.specs.Sums.{earliest_at, params_at}
use Rattle.mrp_plan.specs.Orders.{firm_order, has_order, is_released_by, order_of_plan, planned_order}
use Rattle.mrp_plan.specs.declared.orders.ListedOrder.{ListedOrder}
use Rattle.mrp_report.specs.declared.orders.OrderLine.{OrderLine}
use Rattle.mrp_csv_out.specs.Dates.{dates_of}
use Rattle.mrp_report.specs.Orders.{listed_order_row, spelled_supply}
use Rattle.mrp_csv_out.specs.Names.{item_of, plant_of}

-- what the rows of a pair's orders have in common
pub record IsOrderLine (N : Table) (x : ℕ) (until : Option ℕ) (line : OrderLine) : Type 0 where
  pub plant : line.plant.now ≡ plant_of N x
  pub item : line.item.now ≡ item_of N x
  pub supply : line.supply.now ≡ spelled_supply N x
  pub dates : line.dates.now ≡ dates_of N.calendar
  pub firms : line.firms.now ≡ firms_of N x
  pub lead : line.lead ≡ (params_at N x).lead
  pub earliest : line.earliest ≡ earliest_at N x
  pub by_then : line.until ≡ until

-- a firm planned order is released and due in periods that have dates
pub record HasDates (line : OrderLine) (f : FirmRow) : Type 0 where
  pub start : f.start < length line.dates.now
  pub due : f.due < length line.dates.now

-- the row of an order of the pair, where it is released by then
abbrev pub order_line_row : OrderLine → ListedOrder → List ℕ
order_line_row line listed = listed_order_row line.plant.now line.item.now line.supply.now line.dates.now listed

abbrev pub released_text : OrderLine → ListedOrder → List ℕ
released_text line listed = if is_released_by line.until listed.order then order_line_row line listed else []

-- that of a firm planned order, if it is due in a period, and that of the planned order that is due in it, if there is
-- one
abbrev pub firm_text : OrderLine → ℕ → FirmRow → List ℕ
firm_text line t f = if f.due == t then released_text line (firm_order f) else []

abbrev pub planned_text : OrderLine → PlanRows → ℕ → List ℕ
planned_text line rows t =
    if has_order rows t then released_text line (order_of_plan (planned_order line.lead line.earliest rows t)) else []

-- those of the orders that are due in a period
abbrev pub due_text : OrderLine → PlanRows → ℕ → List ℕ
due_text line rows t = flat_map (firm_text line t) line.firms.now ++ planned_text line rows t

-- those of all periods
abbrev pub order_line_text : OrderLine → PlanRows → List ℕ
order_line_text line rows = flat_map (due_text line rows) (range_with_len 0 (length line.dates.now))
