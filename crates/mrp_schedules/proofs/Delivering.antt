-- Delivery schedules of vendors: what a plan that fits and the table say of one.
use Rattle.std.proofs.Common.{◌≡◌, ℕ, zero, suc, ◌+◌, ◌-◌, ◌≤◌, ◌==◌, not, cond, List, ◌∷◌, ◌++◌, [], length, sum, sum_by, take, slice_index, refl, ap, ◌∙◌, arith}
use Rattle.std.specs.Prelude.{Option, Contains, IfSome, filter_map}
use Rattle.std.specs.List.{range_with_len}
use Rattle.std.proofs.lemmas.List.Sums.{sum_by-take-le}
use Rattle.mrp_qty.specs.declared.quantity.TheConstants.{MOST}
use Rattle.mrp_qty.proofs.RangeLaws.{sum_by-range-suc, sum_take-suc}
use Rattle.mrp_netting.specs.PlanRows.{PlanRows}
use Rattle.mrp_master_data.specs.Rows.{Vendor}
use Rattle.mrp_master_data.specs.Table.{Table, IsPairRow, IsTable, IsVendorRow, horizon}
use Rattle.mrp_net.specs.Plan.{plan_of, release_at, rows_at}
use Rattle.mrp_net.specs.PlanLaws.{Fits}
use Rattle.mrp_net.specs.Shares.{share_of}
use Rattle.mrp_net.specs.Sums.{no_pair, pair_at, supply}
use Rattle.mrp_net.proofs.Members.{In-from_contains, All-in}
use Rattle.mrp_net.proofs.Vendors.{vendors_are_supplied}
use Rattle.mrp_loops.specs.Sized.{IsSized}
use Rattle.mrp_loops.proofs.OnePlan.{one_plan}
use Rattle.mrp_loops.proofs.Within.{supply_and_releases_within}
use Rattle.mrp_plan.proofs.Pegs.{fitting_release}
use Rattle.mrp_record.specs.Entries.{Delivery}
use Rattle.mrp_record.specs.Text.{total}
use Rattle.mrp_protocol.specs.Loads.{by_period}
use Rattle.mrp_protocol.proofs.Delivered.{by_period_total}
use Rattle.mrp_schedules.specs.Calls.{amounts, calls_by}
use Rattle.mrp_schedules.specs.Vendors.{vendor_load}
use Rattle.mrp_schedules.proofs.Periods.{share_in}

pub vendor_row : (N : Table) → IsTable N → (v : Vendor) → Contains N.vendors v → IsVendorRow N v
vendor_row N table v there = All-in (IsVendorRow N) N.vendors v table.read.vendors (In-from_contains N.vendors v there)

-- the plant and the item of its pair are there
pub vendor_pair : (N : Table) → IsTable N → (v : Vendor) → Contains N.vendors v → IsPairRow N (pair_at N v.pair.0)
vendor_pair N table v there = table.read.pairs v.pair.0 no_pair (vendor_row N table v there).pair

vendor_supplied : (N : Table) → IsTable N → (v : Vendor) → Contains N.vendors v → v.figure + v.transit ≤ supply N v.pair.0
vendor_supplied N table v there =
    All-in (λ (w : Vendor). w.figure + w.transit ≤ supply N w.pair.0) N.vendors v (vendors_are_supplied N table) (In-from_contains N.vendors v there)

-- ---- the whole of a release

whole_share : (release : ℕ) → share_of 0 1000 release ≡ release
whole_share release = omega arith

same_amounts : (f g : ℕ → ℕ) → ((t : ℕ) → f t ≡ g t) → (a n : ℕ) → amounts f a n ≡ amounts g a n
same_amounts f g same a zero = refl
same_amounts f g same a (suc n) =
    let line : ℕ → Delivery = λ q. record { period = a; quantity = q } in
    ap (λ (q : ℕ). cond (not (q == 0)) (line q ∷ amounts f (a + 1) n) (amounts f (a + 1) n)) (same a)
    ∙ ap (λ (rest : List Delivery). cond (not (g a == 0)) (line (g a) ∷ rest) rest) (same_amounts f g same (a + 1) n)

-- the figures of the first n periods are within their sum
row-le : (row : List ℕ) (n : ℕ) → sum_by (λ t. slice_index row t) (range_with_len 0 n) ≤ sum (take n row)
row-le row zero = omega arith
row-le row (suc n) = omega (arith, sum_by-range-suc (λ t. slice_index row t) n, row-le row n, sum_take-suc row n)

module _ (N : Table) (sized : IsSized N) (v : Vendor) (there : Contains N.vendors v) (table : List PlanRows) (fits : Fits N table) where
  pub release_length : (row : List ℕ) → row ≡ (rows_at table v.pair.0).release → length row ≡ horizon N
  release_length row is = ap length is ∙ fitting_release N table v.pair.0 fits (vendor_row N sized.table v there).pair

  whole_calls : (row : List ℕ) → row ≡ (rows_at table v.pair.0).release → calls_by 0 1000 row 0 (length row) ≡ by_period (λ t. slice_index row t) (horizon N)
  whole_calls row is =
      let whole : length row - 0 ≡ horizon N = omega (arith, release_length row is) in
      ap (amounts (share_in 0 1000 row) 0) whole
      ∙ same_amounts (share_in 0 1000 row) (λ t. slice_index row t) (λ t. whole_share (slice_index row t)) 0 (horizon N)

  pub calls_are : (row : List ℕ) → row ≡ (rows_at table v.pair.0).release → calls_by 0 1000 row 0 (length row) ≡ (vendor_load N v).lines
  calls_are row is =
      let planned : table ≡ plan_of N = (one_plan N sized.table sized.loop_free).only table fits in
      whole_calls row is
      ∙ ap (λ (r : List ℕ). by_period (λ t. slice_index r t) (horizon N)) (is ∙ ap (λ (t : List PlanRows). (rows_at t v.pair.0).release) planned)

  pub calls_within : (row : List ℕ) → row ≡ (rows_at table v.pair.0).release
      → (v.figure + v.transit) + total (calls_by 0 1000 row 0 (length row)) ≤ MOST
  calls_within row is =
      omega (
        arith,
        vendor_supplied N sized.table v there,
        supply_and_releases_within N sized table fits v.pair.0 (vendor_row N sized.table v there).pair,
        ap sum is,
        ap total (whole_calls row is),
        by_period_total (λ t. slice_index row t) (horizon N),
        row-le row (horizon N),
        sum_by-take-le (λ (q : ℕ). q) row (horizon N),
      )
