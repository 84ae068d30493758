-- Netting one pair: its plan where gross requirements and scheduled receipts are given, period by period, the record
-- of an item in Orlicky's Material Requirements Planning (1975). Its terms are those of the APICS Dictionary, each
-- beside its definition: gross requirements, scheduled receipts, net requirements, planned order receipts, planned
-- order releases, projected available balance. The order row comes first, by net requirement and lot rule; releases
-- and late orders are read off it alone.
--
-- Subtraction of ℕ stops at 0. So where safety stock is 0, that projected available is never below it says
-- nothing, and what says something is the balance without subtraction: what was there, comes in and is
-- ordered is what is required or stays (`FollowsRules.available`, which each plan within the bound meets by
-- the law `PlanFollowsRules`). By it no requirement is left open, whatever the safety stock.
use Rattle.std.specs.Prelude.{ℕ, ◌+◌, ◌-◌, ◌==◌, if◌then◌else◌, min, max, List, length, map}
use Rattle.std.specs.Prelude.{sum_by}
use Rattle.std.specs.Prelude.{slice_index, zero, suc}
use Rattle.std.specs.List.{range_with_len}
use Rattle.mrp_netting.specs.declared.params.PairParams.{PairParams}
use Rattle.mrp_lot.specs.Lot.{periods_covered, lot_of}
use Rattle.mrp_netting.specs.PlanRows.{PlanRows, sum_from, late_orders}

-- the net requirement of the n periods from t on together: safety stock and their gross requirements, less `before`,
-- the balance before t, and their scheduled receipts
abbrev pub need_over : PairParams → List ℕ → List ℕ → ℕ → ℕ → ℕ → ℕ
need_over pair incoming gross before t n = (pair.safety + sum_from gross t n) - (before + sum_from incoming t n)

-- the greatest such need over 1 to n periods
unfoldable pub greatest_need : PairParams → List ℕ → List ℕ → ℕ → ℕ → ℕ → ℕ
greatest_need pair incoming gross before t zero = 0
greatest_need pair incoming gross before t (suc n) =
    max (greatest_need pair incoming gross before t n) (need_over pair incoming gross before t (suc n))

-- net requirement of period t: what safety stock and gross requirement ask beyond the balance and the receipts
abbrev pub net_after : PairParams → List ℕ → List ℕ → ℕ → ℕ → ℕ
net_after pair incoming gross before t = (pair.safety + slice_index gross t) - (before + slice_index incoming t)

-- planned order receipt of period t: none without a net requirement, else what the lot rule orders
abbrev pub order_after : PairParams → List ℕ → List ℕ → ℕ → ℕ → ℕ
order_after pair incoming gross before t =
    let net = net_after pair incoming gross before t in
    let span = greatest_need pair incoming gross before t (min (periods_covered pair.rule) (length gross - t)) in
    if net == 0 then 0 else lot_of pair.rule net span

-- projected available after period t. The order covers safety and the gross requirement, so the difference cuts nothing
-- off
abbrev pub available_after : PairParams → List ℕ → List ℕ → ℕ → ℕ → ℕ
available_after pair incoming gross before t =
    (before + slice_index incoming t + order_after pair incoming gross before t) - slice_index gross t

-- the balance before period t: on hand before period 0, then the projected available
unfoldable pub balance_before : PairParams → List ℕ → List ℕ → ℕ → ℕ
balance_before pair incoming gross zero = pair.on_hand
balance_before pair incoming gross (suc t) = available_after pair incoming gross
    (balance_before pair incoming gross t) t

-- planned order receipt of period t
unfoldable pub order_at : PairParams → List ℕ → List ℕ → ℕ → ℕ
order_at pair incoming gross t = order_after pair incoming gross (balance_before pair incoming gross t) t

-- planned order receipts
abbrev pub order_row : PairParams → List ℕ → List ℕ → List ℕ
order_row pair incoming gross = map (order_at pair incoming gross) (range_with_len 0 (length gross))

-- projected available
abbrev pub available_row : PairParams → List ℕ → List ℕ → List ℕ
available_row pair incoming gross = map (λ t. balance_before pair incoming gross (suc t))
    (range_with_len 0 (length gross))

-- what of the orders of the first n periods is released in period u: those due a lead time later. Subtraction stops at
-- 0, so those due within the lead time are released in period 0
abbrev pub released : ℕ → List ℕ → ℕ → ℕ → ℕ
released lead order n u = sum_by (λ t. if (t - lead) == u then slice_index order t else 0) (range_with_len 0 n)

-- planned order releases of the given orders
abbrev pub release_row : ℕ → List ℕ → List ℕ
release_row lead order = map (released lead order (length order)) (range_with_len 0 (length order))

-- the plan of one pair
unfoldable pub one : PairParams → List ℕ → List ℕ → PlanRows
one pair incoming gross =
    let order = order_row pair incoming gross in
    record {
      gross = gross;
      incoming = incoming;
      order = order;
      release = release_row pair.lead order;
      available = available_row pair incoming gross;
      late = late_orders pair.lead order;
    }
