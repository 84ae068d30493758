-- The network: gross requirements of all periods together, by what its edges ask.
use Rattle.std.proofs.Common.{ℕ, ◌+◌, ◌*◌, ◌≤◌, List, [], ◌∷◌, sum, sum_by, slice_index, take, arith}
use Rattle.std.specs.List.{All, range_with_len}
use Rattle.std.proofs.lemmas.List.Elements.{All-head, All-tail}
use Rattle.std.proofs.lemmas.List.Sums.{sum_by-cons, sum_by-take-le, sum-map}
use Rattle.std.proofs.Math.Nat.{mul-le-mul_left}
use Rattle.mrp_netting.specs.PlanRows.{PlanRows}
use Rattle.mrp_qty.proofs.RangeLaws.{sum_by-add, sum_by-none, sum_by-ext}
use Rattle.mrp_master_data.specs.Table.{Table, IsTable, horizon}
use Rattle.mrp_net.specs.Plan.{rows_at, gross}
use Rattle.mrp_net.specs.Edges.{edge_most, edge_need, edge_usages, part, demanders}
use Rattle.mrp_net.specs.Sums.{demand, demand_total, row_of}
use Rattle.mrp_net.specs.declared.edge.Edge.{Edge}
use Rattle.mrp_net.proofs.Joining.{edges_join, demanders_join}
use Rattle.mrp_net.proofs.Periods.{demands-le}
use Rattle.mrp_net.proofs.UsageRows.{usages_some}
use Rattle.mrp_net.proofs.Using.{part_asked-le, parts_asked-le}

-- a part is no more than the whole
part-le : (e : Edge) (release : ℕ) → e.high ≤ 1000 → part e release ≤ release
part-le e release whole =
    let grows : release * e.high ≤ release * 1000 = mul-le-mul_left release whole in
    omega (arith, grows)

-- and what is asked for it is no more than the edge's most for each piece of the release
pub edge_need-le : (N : Table) (e : Edge) (t release : ℕ) → IsTable N → e.high ≤ 1000 → edge_need N e t release ≤ edge_most N e * release
edge_need-le N e t release is ends = part_asked-le t e.per (edge_usages N e) (part e release) release (usages_some N is e) (part-le e release ends)

-- what edges ask in a period, by the releases in a table of plans
abbrev asked_in : Table → List PlanRows → List Edge → ℕ → ℕ
asked_in N table edges t = sum_by (λ e. edge_need N e t (slice_index (rows_at table e.demander.0).release t)) edges

-- what they would ask in all periods, were each part a whole release and each usage the greatest
abbrev asked_whole : Table → List PlanRows → List Edge → ℕ
asked_whole N table edges = sum_by (λ e. edge_most N e * sum (rows_at table e.demander.0).release) edges

-- what one edge asks over the first n periods
edge_asked-le : (N : Table) (e : Edge) (row : List ℕ) (n : ℕ) → IsTable N → e.high ≤ 1000
    → sum_by (λ t. edge_need N e t (slice_index row t)) (range_with_len 0 n) ≤ edge_most N e * sum (take n row)
edge_asked-le N e row n is ends = parts_asked-le e.per (edge_usages N e) (part e) row n (usages_some N is e) (λ release. part-le e release ends)

-- what edges ask over the first n periods is within what they would ask in all
pub asked_sum-le : (N : Table) (table : List PlanRows) (n : ℕ) (edges : List Edge) → IsTable N → All (λ e. e.high ≤ 1000) edges
    → sum_by (asked_in N table edges) (range_with_len 0 n) ≤ asked_whole N table edges
asked_sum-le N table n [] is ends = omega (arith, sum_by-none (range_with_len 0 n))
asked_sum-le N table n (e ∷ edges) is ends =
    let row = (rows_at table e.demander.0).release in
    let own : e.high ≤ 1000 = All-head (λ (f : Edge). f.high ≤ 1000) e edges ends in
    let all : edge_most N e * sum (take n row) ≤ edge_most N e * sum row =
    mul-le-mul_left (edge_most N e) (sum_by-take-le (λ (x : ℕ). x) row n) in
    omega (
      arith,
      all,
      sum_by-ext (asked_in N table (e ∷ edges)) (λ t. edge_need N e t (slice_index row t) + asked_in N table edges t) (range_with_len 0 n)
          (λ t. sum_by-cons (λ (f : Edge). edge_need N f t (slice_index (rows_at table f.demander.0).release t)) e edges),
      sum_by-add (λ t. edge_need N e t (slice_index row t)) (asked_in N table edges) (range_with_len 0 n),
      edge_asked-le N e row n is own,
      asked_sum-le N table n edges is (All-tail (λ (f : Edge). f.high ≤ 1000) e edges ends),
      sum_by-cons (λ (f : Edge). edge_most N f * sum (rows_at table f.demander.0).release) e edges,
    )

-- the shares of the edges to a pair are in range
pub shares_end : (N : Table) (x : ℕ) → IsTable N → All (λ e. e.high ≤ 1000) (demanders N x)
shares_end N x is = λ i d h. let edge = demanders_join N x (edges_join N is) i d h in edge.ends

-- the gross requirements together are within the demand rows and what the demanders would ask
pub gross_sum-le : (N : Table) (table : List PlanRows) (x : ℕ) → IsTable N
    → sum (row_of N (gross N table x)) ≤ demand_total N x + asked_whole N table (demanders N x)
gross_sum-le N table x is =
    omega (
      arith,
      sum-map (gross N table x) (range_with_len 0 (horizon N)),
      sum_by-add (demand N x) (asked_in N table (demanders N x)) (range_with_len 0 (horizon N)),
      sum-map (demand N x) (range_with_len 0 (horizon N)),
      demands-le N x,
      asked_sum-le N table (horizon N) (demanders N x) is (shares_end N x is),
    )
