-- Advice: the exception messages for the open orders of a pair.
use Rattle.std.specs.Prelude.{ℕ, List, length, filter, filter_map, Option}
use Rattle.std.specs.List.{range_with_len}
use Rattle.mrp_netting.specs.PlanRows.{PlanRows}
use Rattle.mrp_netting.specs.PlanningData.{PairData}
use Rattle.mrp_master_data.specs.Table.{Table}
use Rattle.mrp_net.specs.Plan.{pair_data}
use Rattle.mrp_advice.specs.declared.advice.Advice.{Advice}
use Rattle.mrp_advice.specs.declared.orders.OpenOrder.{OpenOrder}
use Rattle.mrp_advice.specs.Beyond.{advice_within, needs_whole}
use Rattle.mrp_advice.specs.Needed.{needed}
use Rattle.mrp_advice.specs.OpenOrders.{comes_by, open_order_at, open_orders}

-- the messages for open orders of which each is needed in some period or in none, in the order of the orders, where so
-- many periods are whole, or where that isn't asked for
abbrev pub messages_of : Option ℕ → (ℕ → Option ℕ) → List OpenOrder → List Advice
messages_of whole needs orders = filter_map (λ i. advice_within whole (open_order_at orders i) (needs i))
    (range_with_len 0 (length orders))

-- those for the orders that come by then
abbrev pub messages_by : Option ℕ → Option ℕ → (ℕ → Option ℕ) → List OpenOrder → List Advice
messages_by whole until needs orders = filter (λ a. comes_by until a.order) (messages_of whole needs orders)

-- the messages for the open orders of a pair that is planned from these data
abbrev pub messages : Option ℕ → PairData → List OpenOrder → List Advice
messages whole d orders = messages_of whole (needed d orders) orders

-- those of a pair of the table for orders that come by then, by the gross requirements of a plan; the whole periods of
-- each pair's requirements may be given
abbrev pub pair_advice : Option (List ℕ) → Option ℕ → Table → List PlanRows → ℕ → List Advice
pair_advice wholes until N table x =
    messages_by (needs_whole wholes N x) until (needed (pair_data N table x) (open_orders N x)) (open_orders N x)
