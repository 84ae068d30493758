-- Advice: when an open order is needed, by which it has an exception message or none: in the first period in which
-- what the pair has before it is less than what is asked. Receipts that may be counted sooner than they come go by
-- themselves, and so do the other open orders: before one of a sort are had those of its sort that come before it. Of
-- the other sort are had before a receipt those that come by the period, and before another order as many as are short
-- of the receipts that may be counted by then.
use Rattle.std.specs.Prelude.{ℕ, ◌+◌, suc, ◌&&◌, nat_le, nat_lt, Bool, true, false, if◌then◌else◌, min, List, length}
use Rattle.std.specs.Prelude.{take, sum, sum_by, Option, Some, None}
use Rattle.std.specs.List.{find, range_with_len}
use Rattle.mrp_netting.specs.declared.planning_data.Policy.{Policy}
use Rattle.mrp_netting.specs.PlanningData.{PairData, due, short}
use Rattle.mrp_advice.specs.declared.orders.OpenOrder.{OpenOrder}
use Rattle.mrp_advice.specs.OpenOrders.{is_receipt, open_order_at}

-- the open order is a receipt that may be counted sooner than it comes
abbrev pub may_come_sooner : Policy → OpenOrder → Bool
may_come_sooner policy order = nat_lt 0 policy.sooner && is_receipt order.kind

-- the pieces of open orders that may be counted sooner than they come, or those of the others
abbrev pub pieces_of : Policy → Bool → List OpenOrder → ℕ
pieces_of policy true orders = sum_by (λ o. if may_come_sooner policy o then o.quantity else 0) orders
pieces_of policy false orders = sum_by (λ o. if may_come_sooner policy o then 0 else o.quantity) orders

-- what is asked of the pair by a period: safety stock, the gross requirements up to it, and those of the periods of
-- cover
abbrev pub asked_by : PairData → ℕ → ℕ
asked_by d t = d.params.safety + sum (take (suc t + d.policy.cover) d.gross)

-- what is there by a period beside open orders of a sort: beside receipts that may be counted sooner, what arrives and
-- what is due of firm planned orders by then; beside the others, of the receipts that may be counted by then as many as
-- are short
abbrev pub there_beside : PairData → Bool → ℕ → ℕ
there_beside d true t = sum (take (suc t) d.arrivals) + sum (take (suc t) d.firm_due)
there_beside d false t = min (due d (t + d.policy.sooner)) (short d t)

-- what the pair has by a period before its i-th open order
abbrev pub has_before : PairData → List OpenOrder → ℕ → ℕ → ℕ
has_before d orders i t =
    let sooner = may_come_sooner d.policy (open_order_at orders i) in
    d.params.on_hand + there_beside d sooner t + pieces_of d.policy sooner (take i orders)

-- the period in which its i-th open order is needed, if there is one in the horizon
abbrev pub needed : PairData → List OpenOrder → ℕ → Option ℕ
needed d orders i = find (λ t. nat_lt (has_before d orders i t) (asked_by d t)) (range_with_len 0 (length d.gross))

-- an order that is needed then is needed in that period or before it; one that is needed in no period never is
abbrev pub is_needed_by : ℕ → Option ℕ → Bool
is_needed_by t None = false
is_needed_by t (Some u) = nat_le u t
