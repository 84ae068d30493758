-- Netting one pair: the rows of its plan from one record of planning data.
use Rattle.std.specs.Prelude.{◌≡◌, ℕ, ◌+◌, ◌≤◌, ◌<◌, List, length, sum, sum_by, take, slice_index, zero, suc}
use Rattle.std.specs.List.{range_with_len}
use Rattle.std.proofs.Common.{arith, refl, sym, ◌∙◌, ap, subst}
use Rattle.std.proofs.lemmas.List.FromFn.{length-map-range_with_len}
use Rattle.std.proofs.lemmas.List.Sums.{sum-map}
use Rattle.mrp_qty.specs.declared.quantity.TheConstants.{MOST}
use Rattle.mrp_qty.proofs.RangeLaws.{sum_by-add, sum_by-range-take, sum_by-range-same}
use Rattle.mrp_netting.specs.PlanningData.{PairData, incoming_at, incoming_row, balance_before, order_at, order_row}
use Rattle.mrp_netting.specs.PlanningData.{available_row, planned_release, release_at, release_row, one}
use Rattle.mrp_netting.specs.PlanningBound.{IsWithinData, order_quantities}
use Rattle.mrp_netting.specs.PlanningLaws.{IsOrder, OrdersComeAfterReceipts, AvailableCoversAhead, StockIsKept, StockIsKeptInAll}
use Rattle.mrp_netting.specs.PlanningLaws.{OrdersAreLeastMultiples, FenceHoldsReleases, OrdersAreAllReleased, ReleasesStayBounded}
use Rattle.mrp_netting.specs.PlanningLaws.{AllComesIn, AllRowsStayWithin}
use Rattle.mrp_netting.proofs.OneLaws.{all_periods, sum_range-ge}
use Rattle.mrp_netting.proofs.Compared.{row_reads}
use Rattle.mrp_netting.proofs.RowSums.{sum_take-all}
use Rattle.mrp_netting.proofs.ReceiptLaws.{incoming-le, incoming-sum, had-all}
use Rattle.mrp_netting.proofs.PlannedReleases.{planned_release-none, planned-sum}
use Rattle.mrp_netting.proofs.DataLaws.{is_order, available-ge, balance_before-sum, orders-le, balance_before-le, all_counted}

-- the rows as a whole
pub one-incoming : (d : PairData) → (one d).incoming ≡ incoming_row d
unfolding one
one-incoming d = refl

pub one-order : (d : PairData) → (one d).order ≡ order_row d
unfolding one
one-order d = refl

pub one-release : (d : PairData) → (one d).release ≡ release_row d (order_row d)
unfolding one
one-release d = refl

pub one-available : (d : PairData) → (one d).available ≡ available_row d
unfolding one
one-available d = refl

-- and by period
pub order-at : (d : PairData) (t : ℕ) → t < length d.gross → slice_index (one d).order t ≡ order_at d t
order-at d t within = row_reads (order_at d) (one d).order (length d.gross) t (one-order d) within

pub available-at : (d : PairData) (t : ℕ) → t < length d.gross → slice_index (one d).available t ≡ balance_before d (suc t)
available-at d t within = row_reads (λ k. balance_before d (suc k)) (one d).available (length d.gross) t (one-available d) within

pub length-order_row : (d : PairData) → length (order_row d) ≡ length d.gross
length-order_row d = length-map-range_with_len (order_at d) 0 (length d.gross)

-- the orders of the first periods
order_row-sum : (d : PairData) (t : ℕ) → t ≤ length d.gross → sum (take t (order_row d)) ≡ sum_by (order_at d) (range_with_len 0 t)
order_row-sum d t within =
    sym (sum_by-range-take (order_row d) t)
    ∙ sum_by-range-same (λ k. slice_index (order_row d) k) (order_at d) t
    (λ k h. row_reads (order_at d) (order_row d) (length d.gross) k refl (omega arith))

pub orders_sum : (d : PairData) → sum (order_row d) ≡ sum_by (order_at d) (range_with_len 0 (length d.gross))
orders_sum d = sum-map (order_at d) (range_with_len 0 (length d.gross))

pub orders_come_after_receipts : OrdersComeAfterReceipts
orders_come_after_receipts d t is within ordered = all_counted d t is within (omega (arith, order-at d t within))

pub available_covers_ahead : AvailableCoversAhead
available_covers_ahead d t is within = omega (arith, available-at d t within, available-ge d t is within)

pub stock_is_kept : StockIsKept
stock_is_kept d t is within =
    omega (
      arith,
      ap (λ (row : List ℕ). sum (take (suc t) row)) (one-incoming d),
      ap (λ (row : List ℕ). sum (take (suc t) row)) (one-order d),
      order_row-sum d (suc t) within,
      available-at d t within,
      balance_before-sum d (suc t) is within,
    )

-- a row of so many periods is their sum
whole : (row : List ℕ) (t : ℕ) → length row ≡ suc t → sum row ≡ sum (take (suc t) row)
whole row t len = sym (sum_take-all row (suc t) (omega arith))

pub stock_is_kept_in_all : StockIsKeptInAll
stock_is_kept_in_all d t is last =
    let come = ap length (one-incoming d) ∙ length-map-range_with_len (incoming_at d) 0 (length d.gross) in
    let ordered = ap length (one-order d) ∙ length-order_row d in
    omega (
      arith,
      whole (one d).incoming t (come ∙ last),
      whole (one d).order t (ordered ∙ last),
      whole d.gross t last,
      stock_is_kept d t is (omega arith),
    )

come_in : (d : PairData) (n : ℕ) → IsWithinData d → length d.gross ≡ n → sum (incoming_row d) ≡ sum d.receipts + sum d.arrivals + sum d.firm_due
come_in d zero is none = absurd (omega (arith, is.fence))
come_in d (suc t) is last =
    omega (
      arith,
      whole (incoming_row d) t (length-map-range_with_len (incoming_at d) 0 (length d.gross) ∙ last),
      incoming-sum d (suc t) (omega arith),
      had-all d t (omega (arith, is.receipts)),
      sum_take-all d.arrivals (suc t) (omega (arith, is.arrivals)),
      sum_take-all d.firm_due (suc t) (omega (arith, is.firm_due)),
    )

pub all_comes_in : AllComesIn
all_comes_in d is = ap (λ (row : List ℕ). sum row) (one-incoming d) ∙ come_in d (length d.gross) is refl

pub orders_are_least_multiples : OrdersAreLeastMultiples
orders_are_least_multiples d t within = subst (IsOrder d t) (sym (order-at d t within)) (is_order d t)

pub release-at : (d : PairData) (u : ℕ) → u < length d.gross → slice_index (one d).release u ≡ release_at d (order_row d) u
release-at d u within = row_reads (release_at d (order_row d)) (one d).release (length d.gross) u (one-release d) within

pub fence_holds_releases : FenceHoldsReleases
fence_holds_releases d u is inside =
    omega (arith, release-at d u (omega (arith, is.fence)), planned_release-none d (order_row d) u (omega arith))

-- what is released is what is ordered
releases-sum : (d : PairData) → IsWithinData d
    → sum_by (release_at d (order_row d)) (range_with_len 0 (length d.gross)) ≡ sum d.firm_start + sum (order_row d)
releases-sum d is =
    let n = length d.gross in
    omega (
      arith,
      sum_by-add (λ u. slice_index d.firm_start u) (planned_release d (order_row d)) (range_with_len 0 n),
      sum_by-range-take d.firm_start n,
      sum_take-all d.firm_start n is.firm_start,
      planned-sum d (order_row d) n (omega (arith, is.fence)),
      sum_take-all (order_row d) (n + d.params.lead) (omega (arith, length-order_row d)),
    )

pub orders_are_all_released : OrdersAreAllReleased
orders_are_all_released d is =
    ap sum (one-release d) ∙ sum-map (release_at d (order_row d)) (range_with_len 0 (length d.gross)) ∙ releases-sum d is
    ∙ sym (ap (λ (row : List ℕ). sum d.firm_start + sum row) (one-order d))

pub orders_within : (d : PairData) → IsWithinData d → sum (order_row d) ≤ d.params.safety + sum d.gross + order_quantities d
orders_within d is = omega (arith, orders_sum d, orders-le d (length d.gross) is (omega arith))

pub releases_stay_bounded : ReleasesStayBounded
releases_stay_bounded d is =
    omega (arith, orders_are_all_released d is, ap (λ (row : List ℕ). sum row) (one-order d), orders_within d is)

pub all_rows_stay_within : AllRowsStayWithin
all_rows_stay_within d is =
    let n = length d.gross in
    let release = release_at d (order_row d) in
    record {
      incoming = all_periods (λ q. q ≤ MOST) (incoming_at d) n _ (one-incoming d)
          (λ t h. omega (
            arith,
            sum_range-ge (incoming_at d) n t h,
            sum-map (incoming_at d) (range_with_len 0 n),
            sum_take-all (incoming_row d) n (omega (arith, length-map-range_with_len (incoming_at d) 0 n)),
            incoming-le d n (omega arith),
            is.total,
          ));
      order = all_periods (λ q. q ≤ MOST) (order_at d) n _ (one-order d)
          (λ t h. omega (arith, sum_range-ge (order_at d) n t h, orders-le d n is (omega arith), is.total));
      release = all_periods (λ q. q ≤ MOST) release n _ (one-release d)
          (λ t h. omega (arith, sum_range-ge release n t h, releases-sum d is, orders_within d is, is.firm, is.total));
      available = all_periods (λ q. q ≤ MOST) (λ t. balance_before d (suc t)) n _ (one-available d)
          (λ t h. omega (arith, balance_before-le d (suc t) is (omega arith), is.total));
    }
