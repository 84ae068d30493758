-- The report of orders, firm and planned.
use Rattle.std.specs.Prelude.{ℕ, ◌==◌, if◌then◌else◌, List, [], ◌∷◌, ◌++◌, decimal, codes as text_bytes, Option}
use Rattle.std.specs.List.{flat_map}
use Rattle.mrp_qty.specs.declared.limits.TheConstants.{MOST_SHARE}
use Rattle.mrp_master_data.specs.Supplies.{supply_text}
use Rattle.mrp_netting.specs.PlanRows.{PlanRows}
use Rattle.mrp_master_data.specs.Table.{Table}
use Rattle.mrp_master_data.specs.Said.{supply_said}
use Rattle.mrp_commands.specs.declared.choice.Heading.{Heading}
use Rattle.mrp_net.specs.Sums.{pair_at}
use Rattle.mrp_plan.specs.Orders.{listed_by}
use Rattle.mrp_plan.specs.declared.orders.ListedOrder.{ListedOrder}
use Rattle.mrp_plan.specs.declared.orders.OrderSort.{OrderSort}
use Rattle.mrp_plan.specs.declared.orders.OrderSort.TheVariants.{Firm, Planned}
use Rattle.mrp_csv_out.specs.Dates.{dates_of}
use Rattle.mrp_csv_out.specs.Headings.{header_row}
use Rattle.mrp_report.specs.Headings.{order_names}
use Rattle.mrp_csv_out.specs.DateLists.{date_in}
use Rattle.mrp_csv_out.specs.Names.{item_of, pairs_of, plant_of}
use Rattle.mrp_csv_out.specs.Rows.{row}

-- where a pair comes from, spelled as in its row of the table
abbrev pub spelled_supply : Table → ℕ → List ℕ
spelled_supply N x = supply_text (supply_said N x (pair_at N x).supply)

-- what a row calls an order that planners set, and one of the plan
abbrev pub order_word : OrderSort → List ℕ
order_word Firm = text_bytes "firm"
order_word Planned = text_bytes "order"

-- the fields of the row of an order: who sets it, what is ordered, when it is released and due, each with the first day
-- of the period, and how many periods are missing
abbrev pub order_fields : List ℕ → List ℕ → List ℕ → List (List ℕ) → ListedOrder → List (List ℕ)
order_fields plant item supply dates listed =
    let order = listed.order in
    order_word listed.sort ∷ plant ∷ item ∷ supply ∷ decimal order.quantity ∷ decimal order.release
    ∷ date_in dates order.release
    ∷ decimal order.due ∷ date_in dates order.due ∷ decimal order.late ∷ []

-- that row
unfoldable pub listed_order_row : List ℕ → List ℕ → List ℕ → List (List ℕ) → ListedOrder → List ℕ
listed_order_row plant item supply dates listed = row (order_fields plant item supply dates listed)

-- the rows of a pair's orders that are released by then, in rising due period, and in one the firm ones first
unfoldable pub pair_orders_text : Option ℕ → Table → List PlanRows → ℕ → List ℕ
pair_orders_text until N table x =
    flat_map (listed_order_row (plant_of N x) (item_of N x) (spelled_supply N x) (dates_of N.calendar))
    (listed_by until N table x)

-- the orders of each pair, in table order
unfoldable pub orders_text : Option ℕ → Table → List PlanRows → List ℕ
orders_text until N table = flat_map (pair_orders_text until N table) (pairs_of N)

-- the report: the names of its columns, where they are asked for, and the orders
unfoldable pub order_text : Heading → Option ℕ → Table → List PlanRows → List ℕ
order_text heading until N table = header_row heading order_names ++ orders_text until N table

-- what a supply has of one source: a colon and its plant, and then a colon and its share, where that isn't the whole
abbrev pub share_part : ℕ → List ℕ
share_part share = if share == MOST_SHARE then [] else 58 ∷ decimal share

abbrev pub source_part : List ℕ → ℕ → List ℕ
source_part plant share = 58 ∷ plant ++ share_part share
