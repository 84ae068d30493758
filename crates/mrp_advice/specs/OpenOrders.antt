-- Advice: the open orders of a pair that it is for, which are the receipts and the shipments of the table, still to
-- come in, and its firm planned orders.
use Rattle.std.specs.Prelude.{ℕ, ◌==◌, ◌&&◌, nat_le, Bool, true, false, List, ◌++◌, map, filter, slice_index_or, Option}
use Rattle.std.specs.Prelude.{Some, None}
use Rattle.std.specs.List.{flat_map, range_with_len}
use Rattle.mrp_master_data.specs.declared.rows.FirmRow.{FirmRow}
use Rattle.mrp_master_data.specs.declared.rows.ReceiptRow.{ReceiptRow}
use Rattle.mrp_master_data.specs.declared.rows.ShipRow.{ShipRow}
use Rattle.mrp_master_data.specs.Table.{Table, horizon}
use Rattle.mrp_advice.specs.declared.orders.OpenOrder.{OpenOrder}
use Rattle.mrp_advice.specs.declared.orders.OrderKind.{OrderKind}
use Rattle.mrp_advice.specs.declared.orders.OrderKind.TheVariants.{Firm, Receipt, Ship}

-- a receipt, a shipment and a firm planned order as open orders; a firm planned order comes when it is due
abbrev pub receipt_order : ReceiptRow → OpenOrder
receipt_order r = record { kind = Receipt; pair = r.pair; period = r.period; quantity = r.quantity }

abbrev pub ship_order : ShipRow → OpenOrder
ship_order s = record { kind = Ship s.from; pair = s.pair; period = s.period; quantity = s.quantity }

abbrev pub firm_order : FirmRow → OpenOrder
firm_order f = record { kind = Firm; pair = f.pair; period = f.due; quantity = f.quantity }

-- the receipts of a pair that are due in a period, in table order
abbrev pub receipts_in : Table → ℕ → ℕ → List OpenOrder
receipts_in N x t = map receipt_order (filter (λ r. (r.pair.0 == x) && (r.period == t)) N.receipts)

-- the shipments to a pair that arrive in a period, in table order, whichever plant sends them
abbrev pub ships_in : Table → ℕ → ℕ → List OpenOrder
ships_in N x t = map ship_order (filter (λ s. (s.pair.0 == x) && (s.period == t)) N.ships)

-- the firm planned orders of a pair that are due in a period, in table order, whenever they are released
abbrev pub firms_in : Table → ℕ → ℕ → List OpenOrder
firms_in N x t = map firm_order (filter (λ f. (f.pair.0 == x) && (f.due == t)) N.firms)

-- the open orders of a pair in a period: its receipts, the shipments to it, and then its firm planned orders
abbrev pub orders_in : Table → ℕ → ℕ → List OpenOrder
orders_in N x t = receipts_in N x t ++ ships_in N x t ++ firms_in N x t

-- the open orders of a pair, period after period
abbrev pub open_orders : Table → ℕ → List OpenOrder
open_orders N x = flat_map (orders_in N x) (range_with_len 0 (horizon N))

-- all open orders, as the table has them
abbrev pub all_orders : Table → List OpenOrder
all_orders N = map receipt_order N.receipts ++ map ship_order N.ships ++ map firm_order N.firms

-- the order comes in that period or before it; without a period every order does
abbrev pub comes_by : Option ℕ → OpenOrder → Bool
comes_by None order = true
comes_by (Some until) order = nat_le order.period until

abbrev pub is_receipt : OrderKind → Bool
is_receipt Receipt = true
is_receipt (Ship from) = false
is_receipt Firm = false

-- what a look-up past the orders reads
abbrev pub no_order : OpenOrder
no_order = record { kind = Receipt; pair = record { 0 = 0 }; period = 0; quantity = 0 }

-- the i-th of the open orders
abbrev pub open_order_at : List OpenOrder → ℕ → OpenOrder
open_order_at orders i = slice_index_or orders i no_order
