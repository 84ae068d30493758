-- The plan of the whole network: in its explosion, sums of what edges ask.
use Rattle.std.proofs.Common.{◌≡◌, ℕ, ◌+◌, ◌*◌, ◌<◌, ◌≤◌, List, [], ◌∷◌, length, sum, slice_index, slice_index_or, suc, arith, ap, ◌∙◌, sym}
use Rattle.std.proofs.lemmas.List.{get_or_default}
use Rattle.std.specs.List.{All}
use Rattle.std.proofs.Math.Nat.{mul-le-mul_left}
use Rattle.std.proofs.lemmas.List.Sums.{get_or-le-sum_by, sum_by-cons}
use Rattle.mrp_qty.specs.declared.quantity.TheConstants.{MOST}
use Rattle.mrp_netting.specs.PlanRows.{PlanRows}
use Rattle.mrp_qty.proofs.RangeLaws.{sum_by-range-suc}
use Rattle.mrp_master_data.specs.declared.rows.UsageRow.{UsageRow}
use Rattle.mrp_master_data.specs.Table.{Table, IsTable}
use Rattle.mrp_net.specs.Edges.{edge_most, edge_need, edge_usage, edge_usages, part}
use Rattle.mrp_net.specs.Plan.{rows_at, no_rows, asked}
use Rattle.mrp_net.specs.Usages.{in_force, pieces_for, whole}
use Rattle.mrp_net.specs.declared.edge.Edge.{Edge}
use Rattle.mrp_net.proofs.Totals.{asked_sum-le, edge_need-le}
use Rattle.mrp_plan.specs.Explosion.{asked_total, need_by}

-- what a look-up past the edges reads
abbrev pub no_edge : Edge
no_edge = record { demander = record { 0 = 0 }; pair = record { 0 = 0 }; per = 0; low = 0; high = 0 }

-- a part that is the whole release
pub part-whole : (e : Edge) (release : ℕ) → e.low ≡ 0 → e.high ≡ 1000 → part e release ≡ release
part-whole e release low high =
    let ends : release * e.high ≡ release * 1000 = ap (λ (k : ℕ). release * k) high in
    let begins : release * e.low ≡ release * 0 = ap (λ (k : ℕ). release * k) low in
    omega (arith, ends, begins)

-- what is asked by the rows of an edge is what the edge asks
pub need_by-is : (N : Table) (e : Edge) (rows : List UsageRow) (t release : ℕ) → rows ≡ edge_usages N e
    → need_by rows e t release ≡ edge_need N e t release
need_by-is N e rows t release is = ap (λ (us : List UsageRow). need_by us e t release) is

-- and so of the whole release
pub need_by-whole : (N : Table) (e : Edge) (rows : List UsageRow) (t release : ℕ) → e.low ≡ 0 → e.high ≡ 1000 → rows ≡ edge_usages N e
    → pieces_for (in_force t (whole e.per) rows) release ≡ edge_need N e t release
need_by-whole N e rows t release low high is =
    ap (λ (us : List UsageRow). pieces_for (in_force t (whole e.per) us) release) is
    ∙ ap (λ (n : ℕ). pieces_for (edge_usage N e t) n) (sym (part-whole e release low high))

-- a row that grew by no more than so many times another row in each period did so in all
pub sum-le_each : (before after row : List ℕ) (per : ℕ) → length after ≡ length before → length row ≡ length before
    → ((t : ℕ) → t < length before → slice_index after t ≤ slice_index before t + per * slice_index row t)
    → sum after ≤ sum before + per * sum row
sum-le_each [] [] [] per size same each = omega arith
sum-le_each [] [] (r ∷ row) per size same each = omega arith
sum-le_each [] (a ∷ after) row per size same each = let bad : suc (length after) ≡ 0 = size in absurd (omega (arith, bad))
sum-le_each (b ∷ before) [] row per size same each = let bad : 0 ≡ suc (length before) = size in absurd (omega (arith, bad))
sum-le_each (b ∷ before) (a ∷ after) [] per size same each = let bad : 0 ≡ suc (length before) = same in absurd (omega (arith, bad))
sum-le_each (b ∷ before) (a ∷ after) (r ∷ row) per size same each =
    let here : a ≤ b + per * r = each 0 (omega arith) in
    let rest = sum-le_each before after row per (omega arith) (omega arith) (λ t h. each (suc t) (omega arith)) in
    omega (
      arith,
      here,
      rest,
      sum_by-cons (λ (x : ℕ). x) b before,
      sum_by-cons (λ (x : ℕ). x) a after,
      ap (λ (x : ℕ). per * x)
          (sum_by-cons (λ (x : ℕ). x) r row),
    )

-- what is within the bound in all is within it in each period
pub within_each : (gross row : List ℕ) (per t : ℕ) → length row ≡ length gross → sum gross + per * sum row ≤ MOST → t < length gross
    → slice_index gross t + per * slice_index row t ≤ MOST
within_each gross row per t size within here =
    omega (
      arith,
      within,
      get_or-le-sum_by (λ (x : ℕ). x) gross t 0 here,
      mul-le-mul_left per (get_or-le-sum_by (λ (x : ℕ). x) row t 0 (omega (arith, size, here))),
    )

-- and so is what an edge asks in a period
pub need_within : (N : Table) (e : Edge) (gross row : List ℕ) (t : ℕ) → IsTable N → e.high ≤ 1000 → length row ≡ length gross
    → sum gross + edge_most N e * sum row ≤ MOST → t < length gross
    → slice_index gross t + edge_need N e t (slice_index row t) ≤ MOST
need_within N e gross row t is ends size within here =
    omega (arith, edge_need-le N e t (slice_index row t) is ends, within_each gross row (edge_most N e) t size within here)

-- in all periods a row grows by no more than the most that the edge asks for each piece
pub total_within : (N : Table) (e : Edge) (before after row : List ℕ) → IsTable N → e.high ≤ 1000 → length after ≡ length before → length row ≡ length before
    → ((t : ℕ) → t < length before → slice_index after t ≡ slice_index before t + edge_need N e t (slice_index row t))
    → sum after ≤ sum before + edge_most N e * sum row
total_within N e before after row is ends size same each =
    sum-le_each before after row (edge_most N e) size same (λ t h. omega (arith, each t h, edge_need-le N e t (slice_index row t) is ends))

-- an element that was read is the rows of its pair
pub rows_at_read : (table : List PlanRows) (x : ℕ) (rows : PlanRows) → x < length table → rows ≡ slice_index_or table x rows → rows ≡ rows_at table x
rows_at_read table x rows within is = is ∙ get_or_default table x rows no_rows within

-- what edges ask in one period is within what they would ask in all
pub asked-le : (N : Table) (table : List PlanRows) (t : ℕ) (edges : List Edge) → IsTable N → All (λ e. e.high ≤ 1000) edges
    → asked N table edges t ≤ asked_total N table edges
asked-le N table t edges is ends = omega (arith, asked_sum-le N table (suc t) edges is ends, sum_by-range-suc (asked N table edges) t)
