-- The bound: in a sized network an item's opening figure over a lane and all parts of its releases are within it.
use Rattle.std.proofs.Common.{◌≡◌, ℕ, zero, suc, ◌+◌, ◌*◌, ◌≤◌, ◌==◌, ◌&&◌, true, List, sum, sum_by, take, slice_index, sym, ap, ◌∙◌, subst, arith, eqb-true}
use Rattle.std.specs.List.{range_with_len}
use Rattle.std.proofs.lemmas.Bool.{and_parts}
use Rattle.std.proofs.lemmas.List.Elements.{All-filter, filter_passes}
use Rattle.std.proofs.lemmas.List.Sums.{sum_by-take-le}
use Rattle.std.proofs.Math.Nat.{mul-le-mul_left}
use Rattle.mrp_qty.proofs.RangeLaws.{sum_by-range-suc, sum_take-suc}
use Rattle.mrp_master_data.specs.declared.numbers.ItemNo.{ItemNo}
use Rattle.mrp_master_data.specs.declared.rows.SourceRow.{SourceRow}
use Rattle.mrp_master_data.specs.Table.{Table, IsPair, IsSourceRow, horizon, pair_no}
use Rattle.mrp_net.specs.declared.lane.Lane.{Lane}
use Rattle.mrp_net.specs.declared.lane.LaneKind.{LaneKind}
use Rattle.mrp_net.specs.declared.lane.LaneKind.TheVariants.{Despatch, Schedule}
use Rattle.mrp_net.specs.Edges.{part, source_edge}
use Rattle.mrp_net.specs.Lanes.{customer_of, supplier_of, item_of_source, figure, shipped_from, opening, pair_on}
use Rattle.mrp_net.specs.Plan.{rows_at, plan_of}
use Rattle.mrp_net.specs.Sums.{pair_at}
use Rattle.mrp_net.proofs.Sharing.{pairs_are_found}
use Rattle.mrp_loops.specs.Within.{LaneFiguresAreWithin}
use Rattle.mrp_loops.proofs.OnePlan.{one_plan}
use Rattle.mrp_loops.proofs.Within.{figures_within}

part_within : (N : Table) (s : SourceRow) (release : ℕ) → s.high ≤ 1000 → part (source_edge N s) release ≤ release
part_within N s release whole =
    let grows : release * s.high ≤ release * 1000 = mul-le-mul_left release whole in
    omega (arith, grows)

-- the parts of a row's first n periods are within their sum
parts-le : (N : Table) (s : SourceRow) (row : List ℕ) (n : ℕ) → s.high ≤ 1000
    → sum_by (λ t. part (source_edge N s) (slice_index row t)) (range_with_len 0 n) ≤ sum (take n row)
parts-le N s row zero whole = omega arith
parts-le N s row (suc n) whole =
    omega (
      arith,
      sum_by-range-suc (λ t. part (source_edge N s) (slice_index row t)) n,
      parts-le N s row n whole,
      part_within N s (slice_index row n) whole,
      sum_take-suc row n,
    )

by_kind : (kind : LaneKind) (f s : ℕ) → elim kind as (λ _. ℕ) [ Despatch ↦ f | Schedule ↦ f + s ] ≤ f + s
by_kind Despatch f s = omega arith
by_kind Schedule f s = omega arith

-- either lane of two plants begins an item no higher than after its shipments
opening-le : (N : Table) (lane : Lane) (item : ItemNo) → opening N lane item ≤ figure N (pair_on N lane item) (supplier_of lane)
    + shipped_from N (pair_on N lane item) (supplier_of lane)
opening-le N lane item = by_kind lane.kind (figure N (pair_on N lane item) (supplier_of lane)) (shipped_from N (pair_on N lane item) (supplier_of lane))

pub lane_figures_within : LaneFiguresAreWithin
lane_figures_within N sized lane s over =
    let test = λ (r : SourceRow). ((pair_at N r.pair.0).plant.0 == customer_of lane) && (r.plant.0 == supplier_of lane) in
    let k : ℕ = over.0 in
    let row : IsSourceRow N s = subst (IsSourceRow N) over.2 (All-filter test (IsSourceRow N) N.sources sized.table.read.sources k s over.1) in
    let passes : test s ≡ true = subst (λ (r : SourceRow). test r ≡ true) over.2 (filter_passes test N.sources k s over.1) in
    let parts = and_parts ((pair_at N s.pair.0).plant.0 == customer_of lane) (s.plant.0 == supplier_of lane) passes in
    let item : ItemNo = item_of_source N s in
    let x : ℕ = pair_on N lane item in
    let taker : s.pair.0 ≡ x =
    sym (pairs_are_found N sized.table s.pair.0 row.pair)
    ∙ ap (λ (z : ℕ). pair_no N z (pair_at N s.pair.0).item.0) (eqb-true (pair_at N s.pair.0).plant.0 (customer_of lane) parts.0) in
    let pair : IsPair N x = subst (λ (z : ℕ). IsPair N z) taker row.pair in
    let fits = (one_plan N sized.table sized.loop_free).fits in
    let release : List ℕ = (rows_at (plan_of N) s.pair.0).release in
    omega (
      arith,
      opening-le N lane item,
      figures_within N sized (plan_of N) fits x (supplier_of lane) pair,
      parts-le N s release (horizon N) row.ends,
      sum_by-take-le (λ (q : ℕ). q) release (horizon N),
      ap (λ (z : ℕ). sum (rows_at (plan_of N) z).release) taker,
    )
