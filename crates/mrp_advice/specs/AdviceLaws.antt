-- Advice: laws of open orders, of when they are needed, and of the report of their exception messages.
use Rattle.std.specs.Prelude.{◌≡◌, ℕ, ◌+◌, ◌<◌, ◌≤◌, ◌↔◌, nat_lt, true, false, if◌then◌else◌, List, ◌++◌, length, filter}
use Rattle.std.specs.Prelude.{map, sum, sum_by, slice_index, take, All, IsPermutation, Option, Some, None, is_some}
use Rattle.std.specs.List.{flat_map, range_with_len}
use Rattle.mrp_netting.specs.OpenOrders.{IsOtherNeeded, IsReceiptNeeded}
use Rattle.mrp_netting.specs.PlanRows.{PlanRows}
use Rattle.mrp_netting.specs.PlanningBound.{IsWithinData}
use Rattle.mrp_netting.specs.PlanningData.{PairData, due, had, one}
use Rattle.mrp_master_data.specs.declared.rows.PairRow.{PairRow}
use Rattle.mrp_master_data.specs.Table.{Table, IsTable, IsPair, horizon}
use Rattle.mrp_commands.specs.declared.choice.Heading.{Heading}
use Rattle.mrp_net.specs.FirmOrders.{firm_due}
use Rattle.mrp_net.specs.Plan.{pair_data, rows_at}
use Rattle.mrp_net.specs.PlanLaws.{Fits}
use Rattle.mrp_net.specs.Policies.{policy_of}
use Rattle.mrp_net.specs.Sums.{pair_at, received, shipped}
use Rattle.mrp_loops.specs.Sized.{IsSized}
use Rattle.mrp_csv_out.specs.Sheets.{IsReadAs}
use Rattle.mrp_advice.specs.declared.advice.Action.TheVariants.{Expedite}
use Rattle.mrp_advice.specs.declared.orders.OpenOrder.{OpenOrder}
use Rattle.mrp_advice.specs.Actions.{action_for}
use Rattle.mrp_advice.specs.Advice.{messages, messages_by, pair_advice}
use Rattle.mrp_advice.specs.Beyond.{needs_whole}
use Rattle.mrp_advice.specs.Needed.{asked_by, is_needed_by, may_come_sooner, needed, pieces_of, there_beside}
use Rattle.mrp_advice.specs.OpenOrders.{all_orders, comes_by, open_order_at, open_orders, orders_in}
use Rattle.mrp_advice.specs.PlainNeeds.{gross_to, plain_needed}
use Rattle.mrp_advice.specs.AdviceRows.{advice_text}
use Rattle.mrp_advice.specs.AdviceSheets.{advice_sheet}

-- ---- when open orders are needed

-- the period in which the i-th open order of a pair of the table is needed
abbrev pub needed_at : Table → List PlanRows → ℕ → ℕ → Option ℕ
needed_at N table x i = needed (pair_data N table x) (open_orders N x) i

-- what has come by a period if each open order comes when it is needed, and one that is needed in no period never
abbrev pub timely : (ℕ → Option ℕ) → List OpenOrder → ℕ → ℕ
timely needs orders t =
    sum_by (λ i. if is_needed_by t (needs i) then (open_order_at orders i).quantity else 0)
    (range_with_len 0 (length orders))

-- then without any planned order what is on hand and has come is as much as is asked by each period before one in which
-- an order is needed, and by all periods of the horizon where an order is needed in none
abbrev pub TimelyOrdersSuffice : Type 0
TimelyOrdersSuffice =
    (N : Table) (table : List PlanRows) (x t i : ℕ) → t < horizon N → i < length (open_orders N x)
    → is_needed_by t (needed_at N table x i) ≡ false
    → asked_by (pair_data N table x) t ≤ (pair_at N x).on_hand + timely (needed_at N table x) (open_orders N x) t

-- where an order is needed by a period, so are those of its sort before it
abbrev pub NeedsRise : Type 0
NeedsRise =
    (d : PairData) (orders : List OpenOrder) (t i j : ℕ) → i ≤ j
    → may_come_sooner d.policy (open_order_at orders i) ≡ may_come_sooner d.policy (open_order_at orders j)
    → is_needed_by t (needed d orders j) ≡ true → is_needed_by t (needed d orders i) ≡ true

-- the plan counts a piece of the i-th open order, a receipt, in a period before the one in which it comes: by then it
-- counts more than the receipts before it
abbrev pub IsCountedSooner : Table → List PlanRows → ℕ → ℕ → Type 0
IsCountedSooner N table x i =
    (t : ℕ) × (may_come_sooner (policy_of N x) (open_order_at (open_orders N x) i) ≡ true)
    × (t < (open_order_at (open_orders N x) i).period)
    × (pieces_of (policy_of N x) true (take i (open_orders N x)) < had (pair_data N table x) t)

-- such a receipt is to be expedited
abbrev pub CountedSoonerIsExpedited : Type 0
CountedSoonerIsExpedited =
    (N : Table) (table : List PlanRows) (x i : ℕ) → i < length (open_orders N x) → IsCountedSooner N table x i
    → action_for (open_order_at (open_orders N x) i).period (needed_at N table x i) ≡ Some Expedite

-- and of a pair whose receipts may be counted sooner no other receipt is
abbrev pub ExpeditedIsCountedSooner : Type 0
ExpeditedIsCountedSooner =
    (N : Table) → IsTable N → (table : List PlanRows) (x i : ℕ) → i < length (open_orders N x)
    → may_come_sooner (policy_of N x) (open_order_at (open_orders N x) i) ≡ true
    → action_for (open_order_at (open_orders N x) i).period (needed_at N table x i) ≡ Some Expedite
    → IsCountedSooner N table x i

-- the plan counts a piece of such a receipt by a period before the one in which it comes exactly if it is needed by that
-- period and comes within SOONER periods of it
abbrev pub NeededIsCountedSooner : Type 0
NeededIsCountedSooner =
    (N : Table) → IsTable N → (table : List PlanRows) (x i t : ℕ) → i < length (open_orders N x)
    → may_come_sooner (policy_of N x) (open_order_at (open_orders N x) i) ≡ true
    → t < (open_order_at (open_orders N x) i).period
    → pieces_of (policy_of N x) true (take i (open_orders N x)) < had (pair_data N table x) t
    ↔ ((is_needed_by t (needed_at N table x i) ≡ true)
    × ((open_order_at (open_orders N x) i).period ≤ t + (policy_of N x).sooner))

-- a receipt that may be counted sooner is needed by a period exactly if the plan needs it in a period up to that one,
-- behind those before it
abbrev pub ReceiptsAreNeeded : Type 0
ReceiptsAreNeeded =
    (d : PairData) (orders : List OpenOrder) (t i : ℕ) → t < length d.gross
    → may_come_sooner d.policy (open_order_at orders i) ≡ true
    → is_needed_by t (needed d orders i) ≡ true
    ↔ ((s : ℕ) × s ≤ t × IsReceiptNeeded d (pieces_of d.policy true (take i orders)) s)

-- and so is any other open order
abbrev pub OthersAreNeeded : Type 0
OthersAreNeeded =
    (d : PairData) (orders : List OpenOrder) (t i : ℕ) → t < length d.gross
    → may_come_sooner d.policy (open_order_at orders i) ≡ false
    → is_needed_by t (needed d orders i) ≡ true
    ↔ ((s : ℕ) × s ≤ t × IsOtherNeeded d (pieces_of d.policy false (take i orders)) s)

-- ---- the plan without open orders that are to be cancelled

-- of open orders those that are needed in some period
abbrev pub kept : (ℕ → Option ℕ) → List OpenOrder → List OpenOrder
kept needs orders = map (open_order_at orders) (filter (λ i. is_some (needs i)) (range_with_len 0 (length orders)))

-- e is d with these open orders in the place of its own: by each period those of both sorts that come by then
pub record IsPlannedFrom (d e : PairData) (orders : List OpenOrder) : Type 0 where
  pub params : e.params ≡ d.params
  pub policy : e.policy ≡ d.policy
  pub gross : e.gross ≡ d.gross
  pub receipts : (t : ℕ) → due e t ≡ pieces_of d.policy true (filter (comes_by (Some t)) orders)
  pub others : (t : ℕ) → there_beside e true t ≡ pieces_of d.policy false (filter (comes_by (Some t)) orders)

-- without the orders that are to be cancelled a pair's planned orders are those of the plan, by the same gross
-- requirements
abbrev pub CancelledOrdersChangeNothing : Type 0
CancelledOrdersChangeNothing =
    (N : Table) → IsSized N → (table : List PlanRows) → Fits N table → (x : ℕ) → IsPair N x
    → (e : PairData) → IsWithinData e
    → IsPlannedFrom (pair_data N table x) e (kept (needed_at N table x) (open_orders N x))
    → (one e).order ≡ (rows_at table x).order

-- ---- pairs whose receipts count when they come, and that have no periods of cover, as without a policy

-- an order of such a pair is needed in the first period in which what is on hand and of its open orders before it
-- leaves the balance below safety stock
abbrev pub PlainPairsAreAdvised : Type 0
PlainPairsAreAdvised =
    (N : Table) (table : List PlanRows) → Fits N table → (x : ℕ) → IsPair N x
    → (policy_of N x).sooner ≡ 0 → (policy_of N x).cover ≡ 0 → (wholes : Option (List ℕ)) (until : Option ℕ)
    → pair_advice wholes until N table x
    ≡ messages_by (needs_whole wholes N x) until (plain_needed (pair_at N x) (rows_at table x).gross (open_orders N x)) (open_orders N x)

-- if each order came when it is needed, the balance without any planned order would be at safety stock or above in each
-- period before one in which an order is needed
abbrev pub PlainOrdersSuffice : Type 0
PlainOrdersSuffice =
    (pair : PairRow) (gross : List ℕ) (orders : List OpenOrder) (t i : ℕ) → t < length gross → i < length orders
    → is_needed_by t (plain_needed pair gross orders i) ≡ false
    → pair.safety + gross_to gross t ≤ pair.on_hand + timely (plain_needed pair gross orders) orders t

-- where an order is needed by a period, so are those before it
abbrev pub PlainNeedsRise : Type 0
PlainNeedsRise =
    (pair : PairRow) (gross : List ℕ) (orders : List OpenOrder) (t i j : ℕ) → i ≤ j
    → is_needed_by t (plain_needed pair gross orders j) ≡ true
    → is_needed_by t (plain_needed pair gross orders i) ≡ true

-- ---- open orders

-- each receipt, each shipment and each firm planned order is an open order of one pair, once
abbrev pub OrdersAreKept : Type 0
OrdersAreKept = (N : Table) → IsTable N → IsPermutation (all_orders N)
    (flat_map (open_orders N) (range_with_len 0 (length N.pairs)))

-- the open orders of a pair in a period add up to its receipts, the shipments to it, and the firm planned orders that
-- are due
abbrev pub OrdersComeIn : Type 0
OrdersComeIn = (N : Table) (x t : ℕ)
    → sum_by (λ o. o.quantity) (orders_in N x t) ≡ received N x t + shipped N x t + firm_due N x t

-- those of each sort add up to what the pair is planned from: those that may be counted sooner than they come, and the
-- others
pub record AreOfPlan (N : Table) (table : List PlanRows) (x t : ℕ) : Type 0 where
  pub receipts : pieces_of (policy_of N x) true (orders_in N x t) ≡ slice_index (pair_data N table x).receipts t
  pub others : pieces_of (policy_of N x) false (orders_in N x t)
      ≡ slice_index (pair_data N table x).arrivals t + slice_index (pair_data N table x).firm_due t

abbrev pub OrdersAreOfPlan : Type 0
OrdersAreOfPlan = (N : Table) (table : List PlanRows) (x t : ℕ) → t < horizon N → AreOfPlan N table x t

-- where receipts count when they come, a plan of the table has the open orders of each period as incoming
abbrev pub OrdersArePlanned : Type 0
OrdersArePlanned = (N : Table) (table : List PlanRows) → Fits N table → (x t : ℕ) → IsPair N x → t < horizon N
    → (policy_of N x).sooner ≡ 0
    → sum_by (λ o. o.quantity) (orders_in N x t) ≡ slice_index (rows_at table x).incoming t

-- and elsewhere it has them by the end of the horizon
abbrev pub OrdersAreAllPlanned : Type 0
OrdersAreAllPlanned = (N : Table) (table : List PlanRows) → Fits N table → (x : ℕ) → IsPair N x
    → sum_by (λ o. o.quantity) (open_orders N x) ≡ sum (rows_at table x).incoming

-- ---- the report

-- without a period the report has all messages of a pair
abbrev pub AllAreAdvised : Type 0
AllAreAdvised = (wholes : Option (List ℕ)) (N : Table) (table : List PlanRows) (x : ℕ)
    → pair_advice wholes None N table x ≡ messages (needs_whole wholes N x) (pair_data N table x) (open_orders N x)

-- with one it has none for an open order that comes later
abbrev pub NoneComesLater : Type 0
NoneComesLater = (wholes : Option (List ℕ)) (until : ℕ) (N : Table) (table : List PlanRows) (x : ℕ)
    → All (λ a. a.order.period ≤ until) (pair_advice wholes (Some until) N table x)

-- and with the messages for those it has all, each once
abbrev pub OthersAreKept : Type 0
OthersAreKept = (wholes : Option (List ℕ)) (until : ℕ) (N : Table) (table : List PlanRows) (x : ℕ)
    → IsPermutation (pair_advice wholes None N table x)
    (pair_advice wholes (Some until) N table x
    ++ filter (λ a. nat_lt until a.order.period) (pair_advice wholes None N table x))

-- so the last period of the horizon leaves nothing out, nor does a later one
abbrev pub HorizonDropsNone : Type 0
HorizonDropsNone = (wholes : Option (List ℕ)) (until : ℕ) (N : Table) → IsTable N → horizon N ≤ until + 1 → (table : List PlanRows) (x : ℕ)
    → pair_advice wholes (Some until) N table x ≡ pair_advice wholes None N table x

-- the report of an accepted table is read back: what csv reads of it by its defaults is the fields that its rows are
-- made of
abbrev pub AdviceIsReadBack : Type 0
AdviceIsReadBack =
    (N : Table) → IsTable N → (heading : Heading) (wholes : Option (List ℕ)) (until : Option ℕ) (table : List PlanRows)
    → IsReadAs (advice_text heading wholes until N table) (advice_sheet heading wholes until N table)
