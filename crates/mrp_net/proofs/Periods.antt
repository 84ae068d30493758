-- The network: sums of its rows by period. No period, and not all periods together, have more than all rows.
use Rattle.std.proofs.Common.{◌≡◌, ℕ, ◌+◌, ◌<◌, ◌≤◌, ◌==◌, ◌&&◌, if◌then◌else◌, Bool, true, false, List, [], ◌∷◌, length, sum, sum_by, slice_index}
use Rattle.std.proofs.Common.{slice_index_or, arith, ap, ◌∙◌, ⊎_elim, inl, inr}
use Rattle.std.specs.List.{range_with_len}
use Rattle.std.proofs.lemmas.Bool.{cases_lt}
use Rattle.std.proofs.lemmas.List.FromFn.{get_or-range_with_len, get_or-map-range_with_len, length-range_with_len, length-map-range_with_len}
use Rattle.std.proofs.lemmas.List.Sums.{sum_by-cons, get_or-le-sum_by, sum-map}
use Rattle.mrp_qty.proofs.RangeLaws.{placed_past, placed_once, sum_by-add, sum_by-none, sum_by-ext}
use Rattle.mrp_master_data.specs.Table.{Table, horizon}
use Rattle.mrp_master_data.specs.declared.rows.DemandRow.{DemandRow}
use Rattle.mrp_master_data.specs.declared.rows.ReceiptRow.{ReceiptRow}
use Rattle.mrp_master_data.specs.declared.rows.ShipRow.{ShipRow}
use Rattle.mrp_net.specs.Policies.{policy_of}
use Rattle.mrp_net.specs.Sums.{demand, demand_total, incoming, received, received_sooner, received_total, received_when_due, shipped, shipped_total, row_of}
use Rattle.mrp_net.proofs.Sooner.{received_sooner-all, received_sooner-none, when_due-all, when_due-none}

-- one amount, in its period, counts once at the most
placed-le : (v p n : ℕ) → sum_by (λ t. if p == t then v else 0) (range_with_len 0 n) ≤ v
placed-le v p n = ⊎_elim (λ (within : p < n). omega (arith, placed_once v p n within)) (λ (past : n ≤ p). omega (arith, placed_past v p n past)) (cases_lt p n)

-- an amount that counts only where a test holds
tested-le : (b : Bool) (v p n : ℕ) → sum_by (λ t. if b && (p == t) then v else 0) (range_with_len 0 n) ≤ (if b then v else 0)
tested-le true v p n = placed-le v p n
tested-le false v p n = omega (arith, sum_by-none (range_with_len 0 n))

-- rows by period, over the first n periods, against all rows
pub periods-le : {X : Type 0} (test : X → Bool) (period quantity : X → ℕ) (n : ℕ) (rows : List X)
    → sum_by (λ t. sum_by (λ r. if test r && (period r == t) then quantity r else 0) rows) (range_with_len 0 n)
    ≤ sum_by (λ r. if test r then quantity r else 0) rows
periods-le test period quantity n [] = omega (arith, sum_by-none (range_with_len 0 n))
periods-le test period quantity n (r ∷ rows) =
    omega (
      arith,
      sum_by-ext (λ t. sum_by (λ r. if test r && (period r == t) then quantity r else 0) (r ∷ rows))
          (λ t. (if test r && (period r == t) then quantity r else 0) + sum_by (λ r. if test r && (period r == t) then quantity r else 0) rows)
          (range_with_len 0 n)
          (λ t. sum_by-cons (λ r. if test r && (period r == t) then quantity r else 0) r rows),
      sum_by-add (λ t. if test r && (period r == t) then quantity r else 0) (λ t. sum_by (λ r. if test r && (period r == t) then quantity r else 0) rows)
          (range_with_len 0 n),
      tested-le (test r) (quantity r) (period r) n,
      periods-le test period quantity n rows,
      sum_by-cons (λ r. if test r then quantity r else 0) r rows,
    )

-- one period is within the sum of all
pub period-le : (amount : ℕ → ℕ) (n t : ℕ) → t < n → amount t ≤ sum_by amount (range_with_len 0 n)
period-le amount n t within =
    let at : slice_index (range_with_len 0 n) t ≡ t = omega (arith, get_or-range_with_len 0 n t 0 within) in
    omega (arith, get_or-le-sum_by amount (range_with_len 0 n) t 0 (omega (arith, length-range_with_len 0 n)), ap amount at)

pub demands-le : (N : Table) (x : ℕ) → sum (row_of N (demand N x)) ≤ demand_total N x
demands-le N x =
    omega (
      arith,
      sum-map (demand N x) (range_with_len 0 (horizon N)),
      periods-le (λ (d : DemandRow). d.pair.0 == x) (λ (d : DemandRow). d.period) (λ (d : DemandRow). d.quantity) (horizon N) N.demands,
    )

receipts-le : (N : Table) (x : ℕ) → sum (row_of N (received N x)) ≤ received_total N x
receipts-le N x =
    omega (
      arith,
      sum-map (received N x) (range_with_len 0 (horizon N)),
      periods-le (λ (r : ReceiptRow). r.pair.0 == x) (λ (r : ReceiptRow). r.period) (λ (r : ReceiptRow). r.quantity) (horizon N) N.receipts,
    )

-- receipts that may be counted sooner, and those that count when they come
both_receipts-le : (N : Table) (x : ℕ) → sum (received_sooner N x) + sum (row_of N (received_when_due N x)) ≤ received_total N x
both_receipts-le N x =
    let n = horizon N in
    elim (cases_lt 0 (policy_of N x).sooner) as (λ _. sum (received_sooner N x) + sum (row_of N (received_when_due N x)) ≤ received_total N x) [
      | inl some ↦
          omega (
            arith,
            ap (λ (row : List ℕ). sum row) (received_sooner-all N x some),
            sum-map (received_when_due N x) (range_with_len 0 n),
            sum_by-ext (received_when_due N x) (λ t. 0) (range_with_len 0 n) (λ t. when_due-none N x t some),
            sum_by-none (range_with_len 0 n),
            receipts-le N x,
          )
      | inr none ↦
          omega (
            arith,
            ap (λ (row : List ℕ). sum row) (received_sooner-none N x (omega (arith, none))),
            sum-map (received_when_due N x) (range_with_len 0 n),
            sum-map (received N x) (range_with_len 0 n),
            sum_by-ext (received_when_due N x) (received N x) (range_with_len 0 n) (λ t. when_due-all N x t (omega (arith, none))),
            receipts-le N x,
          )
    ]

-- all that comes in beside firm planned orders, be it counted sooner or when it comes
pub all_incomings-le : (N : Table) (x : ℕ) → sum (received_sooner N x) + sum (row_of N (incoming N x)) ≤ received_total N x + shipped_total N x
all_incomings-le N x =
    omega (
      arith,
      sum-map (incoming N x) (range_with_len 0 (horizon N)),
      sum_by-add (received_when_due N x) (shipped N x) (range_with_len 0 (horizon N)),
      sum-map (received_when_due N x) (range_with_len 0 (horizon N)),
      both_receipts-le N x,
      periods-le (λ (s : ShipRow). s.pair.0 == x) (λ (s : ShipRow). s.period) (λ (s : ShipRow). s.quantity) (horizon N) N.ships,
    )

pub demand-le : (N : Table) (x t : ℕ) → t < horizon N → demand N x t ≤ demand_total N x
demand-le N x t within =
    omega (arith, demands-le N x, sum-map (demand N x) (range_with_len 0 (horizon N)), period-le (demand N x) (horizon N) t within)

pub arrivals-le : (N : Table) (x t : ℕ) → t < horizon N → received N x t + shipped N x t ≤ received_total N x + shipped_total N x
arrivals-le N x t within =
    omega (
      arith,
      receipts-le N x,
      sum-map (received N x) (range_with_len 0 (horizon N)),
      period-le (received N x) (horizon N) t within,
      periods-le (λ (s : ShipRow). s.pair.0 == x) (λ (s : ShipRow). s.period) (λ (s : ShipRow). s.quantity) (horizon N) N.ships,
      period-le (shipped N x) (horizon N) t within,
    )

-- an amount of a row that is written for all periods
pub row_reads : (N : Table) (amount : ℕ → ℕ) (row : List ℕ) (t : ℕ) → row ≡ row_of N amount → t < horizon N → slice_index row t ≡ amount t
row_reads N amount row t is within = ap (λ (r : List ℕ). slice_index r t) is ∙ get_or-map-range_with_len amount 0 (horizon N) t t 0 within (omega arith)

-- so is each amount of such a row
pub row_within : (N : Table) (amount : ℕ → ℕ) (row : List ℕ) (most : ℕ) → row ≡ row_of N amount → ((t : ℕ) → t < horizon N → amount t ≤ most)
    → (k d : ℕ) → k < length row → slice_index_or row k d ≤ most
row_within N amount row most is less k d below =
    let here : k < horizon N = omega (arith, below, ap (λ (r : List ℕ). length r) is, length-map-range_with_len amount 0 (horizon N)) in
    let read : slice_index_or row k d ≡ amount k = ap (λ (r : List ℕ). slice_index_or r k d) is
    ∙ get_or-map-range_with_len amount 0 (horizon N) k k d here (omega arith) in
    omega (arith, read, less k here)
