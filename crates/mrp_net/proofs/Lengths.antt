-- The network: the records of each of its lanes' texts fit 64 bits.
use Rattle.std.proofs.Common.{◌≡◌, ℕ, ◌+◌, ◌≤◌, ◌&&◌, Bool, true, false, cond, eqb, length, refl, ap, arith}
use Rattle.std.specs.Option.{is_some}
use Rattle.std.proofs.lemmas.List.{length-map}
use Rattle.std.proofs.lemmas.List.Sums.{length-filter, count_by-le-length}
use Rattle.mrp_qty.specs.declared.limits.TheConstants.{MOST_OF_A_KIND, MOST_SOURCES}
use Rattle.mrp_master_data.specs.declared.numbers.ItemNo.{ItemNo}
use Rattle.mrp_master_data.specs.declared.rows.ShipRow.{ShipRow}
use Rattle.mrp_master_data.specs.declared.rows.SourceRow.{SourceRow}
use Rattle.mrp_master_data.specs.Table.{Table, IsTable, horizon}
use Rattle.mrp_net.specs.declared.lane.Lane.{Lane}
use Rattle.mrp_net.specs.declared.lane.LaneKind.{LaneKind}
use Rattle.mrp_net.specs.declared.lane.LaneKind.TheVariants.{Despatch, Schedule}
use Rattle.mrp_net.specs.Lanes.{lane_items, shipments, shipment_of, ships_from, taken_over, item_of_source, reset, pair_on, customer_of, supplier_of}
use Rattle.mrp_net.specs.Sums.{pair_at}
use Rattle.mrp_net.specs.Texts.{most_lines, longest_block}
use Rattle.mrp_master_data.proofs.LimitFacts.{any_limited}

lines_by_kind : (N : Table) (lane : Lane) (item : ItemNo) (kind : LaneKind) → lane.kind ≡ kind → IsTable N → most_lines N lane item ≤ MOST_OF_A_KIND
lines_by_kind N lane item Despatch e is =
    let x : ℕ = pair_on N lane item in
    let test = λ (s : ShipRow). eqb s.pair.0 x && eqb s.from.0 (supplier_of lane) in
    let lines : most_lines N lane item ≡ length (shipments N lane item) =
    ap (λ (k : LaneKind). elim k as (λ _. ℕ) [ Despatch ↦ length (shipments N lane item) | Schedule ↦ horizon N ]) e in
    omega (
      arith,
      lines,
      length-map (ships_from N x (supplier_of lane)) shipment_of,
      length-filter test N.ships,
      count_by-le-length test N.ships,
      (any_limited N is.read.limits).ships,
    )
lines_by_kind N lane item Schedule e is =
    let lines : most_lines N lane item ≡ horizon N = ap (λ (k : LaneKind). elim k as
    (λ _. ℕ) [ Despatch ↦ length (shipments N lane item) | Schedule ↦ horizon N ]) e in
    omega (arith, lines, (any_limited N is.read.limits).periods)

one_at_most : (b : Bool) → cond b 1 0 ≤ 1
one_at_most true = omega arith
one_at_most false = omega arith

pub block_is_short : (N : Table) (lane : Lane) (item : ItemNo) → IsTable N → longest_block N lane item ≤ MOST_OF_A_KIND + 2
block_is_short N lane item is = omega (arith, lines_by_kind N lane item lane.kind refl is, one_at_most (is_some (reset N lane item)))

pub lane_items_are_few : (N : Table) (lane : Lane) → IsTable N → length (lane_items N lane) ≤ MOST_SOURCES
lane_items_are_few N lane is =
    let test = λ (s : SourceRow). eqb (pair_at N s.pair.0).plant.0 (customer_of lane) && eqb s.plant.0 (supplier_of lane) in
    omega (
      arith,
      length-map (taken_over N (customer_of lane) (supplier_of lane))
          (item_of_source N),
      length-filter test N.sources,
      count_by-le-length test N.sources,
      (any_limited N is.read.limits).sources,
    )
