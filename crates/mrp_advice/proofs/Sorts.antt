-- Advice: open orders of both sorts, and what each sort adds up to.
use Rattle.std.proofs.Common.{◌≡◌, ◌∙◌, ℕ, ◌+◌, ◌<◌, ◌≤◌, ◌==◌, ◌&&◌, ◌⊎◌, Bool, true, false, not, cond, nat_lt, inl, inr, List, [], ◌∷◌, ◌++◌, length}
use Rattle.std.proofs.Common.{take, sum}
use Rattle.std.proofs.Common.{slice_index, refl, sym, arith}
use Rattle.std.specs.List.{filter, flat_map, range_with_len, sum_by}
use Rattle.std.proofs.lemmas.Bool.{cond-true, cond-false}
use Rattle.std.proofs.lemmas.List.FromFn.{get_or-map-range_with_len}
use Rattle.std.proofs.lemmas.List.Sums.{sum_by-append, sum_by-cons, sum_by_more}
use Rattle.mrp_grouping.proofs.Kept.{sum_filter}
use Rattle.mrp_qty.proofs.RangeLaws.{sum_by-range-same, sum_by-range-take, sum_by-add}
use Rattle.mrp_netting.specs.PlanRows.{PlanRows}
use Rattle.mrp_netting.specs.declared.planning_data.Policy.{Policy}
use Rattle.mrp_master_data.specs.declared.rows.FirmRow.{FirmRow}
use Rattle.mrp_master_data.specs.declared.rows.ReceiptRow.{ReceiptRow}
use Rattle.mrp_master_data.specs.declared.rows.ShipRow.{ShipRow}
use Rattle.mrp_master_data.specs.Table.{Table, horizon}
use Rattle.mrp_net.specs.FirmOrders.{firm_due}
use Rattle.mrp_net.specs.Plan.{pair_data}
use Rattle.mrp_net.specs.Policies.{policy_of}
use Rattle.mrp_net.specs.Sums.{received, row_of, shipped}
use Rattle.mrp_net.proofs.Covering.{sum-flat_map}
use Rattle.mrp_net.proofs.Sharing.{sum_map}
use Rattle.mrp_advice.specs.declared.orders.OpenOrder.{OpenOrder}
use Rattle.mrp_advice.specs.AdviceLaws.{OrdersAreOfPlan}
use Rattle.mrp_advice.specs.Needed.{may_come_sooner, pieces_of}
use Rattle.mrp_advice.specs.OpenOrders.{firm_order, firms_in, is_receipt, no_order, open_order_at, orders_in, receipt_order, receipts_in, ship_order, ships_in}
use Rattle.mrp_advice.proofs.Coming.{firm_sum}
use Rattle.mrp_advice.proofs.Needing.{front-le}

-- the pieces of an order, where it is of that sort
abbrev pub weight : Policy → Bool → OpenOrder → ℕ
weight policy true o = cond (may_come_sooner policy o) o.quantity 0
weight policy false o = cond (may_come_sooner policy o) 0 o.quantity

module _ (policy : Policy) where
  pub pieces_is : (s : Bool) (orders : List OpenOrder) → pieces_of policy s orders ≡ sum_by (weight policy s) orders
  pieces_is true orders = refl
  pieces_is false orders = refl

  pub pieces_more : (s : Bool) (orders : List OpenOrder) (i : ℕ) → i < length orders
      → pieces_of policy s (take (i + 1) orders) ≡ pieces_of policy s (take i orders) + weight policy s (open_order_at orders i)
  pieces_more s orders i within =
      omega (
        arith,
        pieces_is s (take (i + 1) orders),
        pieces_is s (take i orders),
        sum_by_more (weight policy s) orders i no_order within,
      )

  pub pieces-le : (s : Bool) (orders : List OpenOrder) (i j : ℕ) → i ≤ j → pieces_of policy s (take i orders) ≤ pieces_of policy s (take j orders)
  pieces-le s orders i j less =
      omega (arith, pieces_is s (take i orders), pieces_is s (take j orders), front-le (weight policy s) orders i j less)

  pub weight_own : (s : Bool) (o : OpenOrder) → may_come_sooner policy o ≡ s → weight policy s o ≡ o.quantity
  weight_own true o is = cond-true (may_come_sooner policy o) o.quantity 0 is
  weight_own false o is = cond-false (may_come_sooner policy o) 0 o.quantity is

  pub weight_other : (s : Bool) (o : OpenOrder) → may_come_sooner policy o ≡ not s → weight policy s o ≡ 0
  weight_other true o is = cond-false (may_come_sooner policy o) o.quantity 0 is
  weight_other false o is = cond-true (may_come_sooner policy o) 0 o.quantity is

  both_parts : (b : Bool) (q : ℕ) → cond b q 0 + cond b 0 q ≡ q
  both_parts true q = omega arith
  both_parts false q = omega arith

  pub both_weights : (o : OpenOrder) → weight policy true o + weight policy false o ≡ o.quantity
  both_weights o = both_parts (may_come_sooner policy o) o.quantity

  -- both sorts together are all open orders
  pub both_pieces : (orders : List OpenOrder) → pieces_of policy true orders + pieces_of policy false orders ≡ sum_by (λ o. o.quantity) orders
  both_pieces [] = refl
  both_pieces (o ∷ os) =
      omega (
        arith,
        sum_by-cons (weight policy true) o os,
        sum_by-cons (weight policy false) o os,
        sum_by-cons (λ (p : OpenOrder). p.quantity) o os,
        both_weights o,
        both_pieces os,
      )

  -- so a sort alone has no more
  pub some-le : (s : Bool) (orders : List OpenOrder) → pieces_of policy s orders ≤ sum_by (λ o. o.quantity) orders
  some-le true orders = omega (arith, both_pieces orders)
  some-le false orders = omega (arith, both_pieces orders)

-- of two sorts one is the other's own or not
pub same_or_other : (a s : Bool) → (a ≡ s) ⊎ (a ≡ not s)
same_or_other true true = inl refl
same_or_other true false = inr refl
same_or_other false true = inr refl
same_or_other false false = inl refl

-- ---- what the orders of a period add up to

abbrev weight_if : Bool → Bool → OpenOrder → ℕ
weight_if b true o = cond (b && is_receipt o.kind) o.quantity 0
weight_if b false o = cond (b && is_receipt o.kind) 0 o.quantity

nothing : {X : Type 0} (rows : List X) → sum_by (λ (x : X). 0) rows ≡ 0
nothing [] = refl
nothing (x ∷ rows) = omega (arith, sum_by-cons (λ (y : _). 0) x rows, nothing rows)

module _ (N : Table) (x t : ℕ) where
  receipt_sum : sum_by (λ (r : ReceiptRow). r.quantity) (filter (λ r. (r.pair.0 == x) && (r.period == t)) N.receipts) ≡ received N x t
  receipt_sum = sum_filter (λ (r : ReceiptRow). r.quantity) (λ r. (r.pair.0 == x) && (r.period == t)) N.receipts

  ship_sum : sum_by (λ (s : ShipRow). s.quantity) (filter (λ s. (s.pair.0 == x) && (s.period == t)) N.ships) ≡ shipped N x t
  ship_sum = sum_filter (λ (s : ShipRow). s.quantity) (λ s. (s.pair.0 == x) && (s.period == t)) N.ships

  abbrev receipt_rows : List ReceiptRow
  receipt_rows = filter (λ r. (r.pair.0 == x) && (r.period == t)) N.receipts

  abbrev ship_rows : List ShipRow
  ship_rows = filter (λ s. (s.pair.0 == x) && (s.period == t)) N.ships

  abbrev firm_rows : List FirmRow
  firm_rows = filter (λ f. (f.pair.0 == x) && (f.due == t)) N.firms

  three : (w : OpenOrder → ℕ) → sum_by w (orders_in N x t) ≡ sum_by w (receipts_in N x t) + sum_by w (ships_in N x t) + sum_by w (firms_in N x t)
  three w =
      omega (
        arith,
        sum_by-append w (receipts_in N x t ++ ships_in N x t) (firms_in N x t),
        sum_by-append w (receipts_in N x t) (ships_in N x t),
      )

  -- where receipts may be counted sooner they are one sort, and shipments and firm planned orders the other
  sooner_receipts : sum_by (weight_if true true) (orders_in N x t) ≡ received N x t
  sooner_receipts =
      omega (
        arith,
        three (weight_if true true),
        sum_map (weight_if true true) receipt_order receipt_rows,
        receipt_sum,
        sum_map (weight_if true true) ship_order ship_rows,
        nothing ship_rows,
        sum_map (weight_if true true) firm_order firm_rows,
        nothing firm_rows,
      )

  sooner_others : sum_by (weight_if true false) (orders_in N x t) ≡ shipped N x t + firm_due N x t
  sooner_others =
      omega (
        arith,
        three (weight_if true false),
        sum_map (weight_if true false) receipt_order receipt_rows,
        nothing receipt_rows,
        sum_map (weight_if true false) ship_order ship_rows,
        ship_sum,
        sum_map (weight_if true false) firm_order firm_rows,
        sum_map (λ (o : OpenOrder). o.quantity) firm_order firm_rows,
        firm_sum N x t,
      )

  -- elsewhere all are of the other sort
  plain_others : sum_by (weight_if false false) (orders_in N x t) ≡ received N x t + shipped N x t + firm_due N x t
  plain_others =
      omega (
        arith,
        three (weight_if false false),
        sum_map (weight_if false false) receipt_order receipt_rows,
        receipt_sum,
        sum_map (weight_if false false) ship_order ship_rows,
        ship_sum,
        sum_map (weight_if false false) firm_order firm_rows,
        sum_map (λ (o : OpenOrder). o.quantity) firm_order firm_rows,
        firm_sum N x t,
      )

  at : (amount : ℕ → ℕ) → t < horizon N → slice_index (row_of N amount) t ≡ amount t
  at amount within = get_or-map-range_with_len amount 0 (horizon N) t t 0 within (omega arith)

  -- what a pair is planned from, by whether its receipts may be counted sooner
  abbrev receipts_if : Bool → List ℕ
  receipts_if b = cond b (row_of N (received N x)) []

  abbrev comes_if : Bool → ℕ → ℕ
  comes_if b u = cond b 0 (received N x u) + shipped N x u

  receipts_of : (b : Bool) → t < horizon N → sum_by (weight_if b true) (orders_in N x t) ≡ slice_index (receipts_if b) t
  receipts_of true within = sooner_receipts ∙ sym (at (received N x) within)
  receipts_of false within = nothing (orders_in N x t)

  others_of : (b : Bool) → t < horizon N
      → sum_by (weight_if b false) (orders_in N x t) ≡ slice_index (row_of N (comes_if b)) t + slice_index (row_of N (firm_due N x)) t
  others_of true within = omega (arith, sooner_others, at (comes_if true) within, at (firm_due N x) within)
  others_of false within = omega (arith, plain_others, at (comes_if false) within, at (firm_due N x) within)

pub orders_are_of_plan : OrdersAreOfPlan
orders_are_of_plan N table x t within =
    let b = nat_lt 0 (policy_of N x).sooner in
    record { receipts = receipts_of N x t b within; others = others_of N x t b within }

-- ---- what the orders of the first periods add up to

module _ (N : Table) (table : List PlanRows) (x : ℕ) where
  abbrev of_first : ℕ → List OpenOrder
  of_first n = flat_map (orders_in N x) (range_with_len 0 n)

  pub receipts_to : (n : ℕ) → n ≤ horizon N → pieces_of (policy_of N x) true (of_first n) ≡ sum (take n (pair_data N table x).receipts)
  receipts_to n few =
      sum-flat_map (weight (policy_of N x) true) (orders_in N x) (range_with_len 0 n)
      ∙ sum_by-range-same (λ t. sum_by (weight (policy_of N x) true) (orders_in N x t)) (λ t. slice_index (pair_data N table x).receipts t) n
      (λ t h. (orders_are_of_plan N table x t (omega arith)).receipts)
      ∙ sum_by-range-take (pair_data N table x).receipts n

  pub others_to : (n : ℕ) → n ≤ horizon N
      → pieces_of (policy_of N x) false (of_first n) ≡ sum (take n (pair_data N table x).arrivals) + sum (take n (pair_data N table x).firm_due)
  others_to n few =
      let d = pair_data N table x in
      sum-flat_map (weight (policy_of N x) false) (orders_in N x) (range_with_len 0 n)
      ∙ sum_by-range-same (λ t. sum_by (weight (policy_of N x) false) (orders_in N x t)) (λ t. slice_index d.arrivals t + slice_index d.firm_due t) n
      (λ t h. (orders_are_of_plan N table x t (omega arith)).others)
      ∙ sum_by-add (λ t. slice_index d.arrivals t) (λ t. slice_index d.firm_due t) (range_with_len 0 n)
      ∙ omega (arith, sum_by-range-take d.arrivals n, sum_by-range-take d.firm_due n)
