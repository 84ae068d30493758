-- The network: a lane joins two plants and has items, and its figures are part of what its customer's pairs have.
use Rattle.std.proofs.Common.{◌≡◌, ◌≢◌, ℕ, ◌*◌, ◌/◌, ◌<◌, ◌≤◌, ◌&&◌, Bool, true, false, cond, eqb, List, [], ◌∷◌, length, get_or, map, refl, sym, ◌∙◌, arith}
use Rattle.std.specs.List.{All}
use Rattle.std.proofs.lemmas.Bool.{cond_both, eqb-true, eqb-false, and_parts}
use Rattle.std.proofs.lemmas.List.{length-map}
use Rattle.std.proofs.lemmas.List.Elements.{All-nil, All-cons, All-filter, filter_passes}
use Rattle.std.proofs.lemmas.List.Sums.{sum_by-le-sum_by}
use Rattle.std.proofs.Math.Nat.{div-le_of_le-mul, mul-le-mul_left}
use Rattle.mrp_master_data.specs.declared.numbers.ItemNo.{ItemNo}
use Rattle.mrp_master_data.specs.declared.rows.CumRow.{CumRow}
use Rattle.mrp_master_data.specs.declared.rows.ShipRow.{ShipRow}
use Rattle.mrp_master_data.specs.declared.rows.SourceRow.{SourceRow}
use Rattle.mrp_master_data.specs.Table.{Table, IsTable, IsSourceRow, plant_at}
use Rattle.mrp_net.specs.declared.lane.Lane.{Lane}
use Rattle.mrp_net.specs.declared.lane.LaneKind.{LaneKind}
use Rattle.mrp_net.specs.declared.lane.LaneKind.TheVariants.{Despatch, Schedule}
use Rattle.mrp_net.specs.Lanes.{lanes_of, lanes_between, both_lanes, taken_over, item_of_source, figure, shipped_from, opening, pair_on, supplier_of}
use Rattle.mrp_net.specs.LaneLaws.{JoinsTwo, LanesJoinTwoPlants, OpeningsAreSupplied}
use Rattle.mrp_net.specs.SupplyLaws.{PartsAreWithin}
use Rattle.mrp_net.specs.Sources.{no_source}
use Rattle.mrp_net.specs.Sums.{pair_at, opening_total, shipped_total, supply}
use Rattle.mrp_net.proofs.Local.{plant_is}
use Rattle.mrp_net.proofs.Routing.{All-flat_map-range, opening_despatch, opening_schedule}

-- what is taken over a route is taken from another plant
apart : (N : Table) (customer supplier : ℕ) → IsTable N → 0 < length (taken_over N customer supplier) → customer ≢ supplier
apart N customer supplier is some same =
    let test = λ (s : SourceRow). eqb (pair_at N s.pair.0).plant.0 customer && eqb s.plant.0 supplier in
    let s : SourceRow = get_or (taken_over N customer supplier) 0 no_source in
    let parts = and_parts (eqb (pair_at N s.pair.0).plant.0 customer) (eqb s.plant.0 supplier) (filter_passes test N.sources 0 no_source some) in
    let row = All-filter test (IsSourceRow N) N.sources is.read.sources 0 no_source some in
    let other : eqb s.plant.0 (plant_at N s.pair.0) ≡ false = All-filter test
    (λ (r : SourceRow). eqb r.plant.0 (plant_at N r.pair.0) ≡ false) N.sources is.sourced.others 0 no_source some in
    eqb-false s.plant.0 (plant_at N s.pair.0) other
    (eqb-true s.plant.0 supplier parts.1 ∙ sym same ∙ sym (eqb-true (pair_at N s.pair.0).plant.0 customer parts.0) ∙ sym (plant_is N s.pair.0 row.pair))

joins : (N : Table) (customer supplier : ℕ) → IsTable N → customer < length N.plants → supplier < length N.plants → 0 < length (taken_over N customer supplier)
    → All (JoinsTwo N) (both_lanes (record { 0 = customer }) (record { 0 = supplier }))
joins N customer supplier is c s some =
    let despatch : Lane = record { kind = Despatch; sender = record { 0 = supplier }; receiver = record { 0 = customer } } in
    let schedule : Lane = record { kind = Schedule; sender = record { 0 = customer }; receiver = record { 0 = supplier } } in
    let two = apart N customer supplier is some in
    let items : 1 ≤ length (map (item_of_source N) (taken_over N customer supplier)) =
    omega (arith, length-map (taken_over N customer supplier) (item_of_source N)) in
    All-cons (JoinsTwo N) despatch (schedule ∷ []) (record { customer = c; supplier = s; two = two; some = items })
    (All-cons (JoinsTwo N) schedule [] (record { customer = c; supplier = s; two = two; some = items }) (All-nil (JoinsTwo N)))

pub lanes_join_two_plants : LanesJoinTwoPlants
lanes_join_two_plants N is =
    All-flat_map-range (JoinsTwo N) (lanes_of N) (length N.plants)
    (λ customer c. All-flat_map-range (JoinsTwo N) (lanes_between N customer) (length N.plants)
    (λ supplier s.
    let n : ℕ = length (taken_over N customer supplier) in
    cond_both (eqb n 0) [] (both_lanes (record { 0 = customer }) (record { 0 = supplier })) (λ (z : List Lane). All (JoinsTwo N) z)
    (λ _. All-nil (JoinsTwo N))
    (λ f. let ne = eqb-false n 0 f in joins N customer supplier is c s (omega (arith, ne)))))

-- figures and shipments of one source are among those of all
of_one : (a b : Bool) (n : ℕ) → cond (a && b) n 0 ≤ cond a n 0
of_one true true n = omega arith
of_one true false n = omega arith
of_one false b n = omega arith

figure_among : (N : Table) (x p : ℕ) → figure N x p ≤ opening_total N x
figure_among N x p = sum_by-le-sum_by (λ (c : CumRow). cond (eqb c.pair.0 x && eqb c.from.0 p) c.figure 0) (λ c. cond (eqb c.pair.0 x) c.figure 0) N.cums
    (λ c. of_one (eqb c.pair.0 x) (eqb c.from.0 p) c.figure)

shipped_among : (N : Table) (x p : ℕ) → shipped_from N x p ≤ shipped_total N x
shipped_among N x p = sum_by-le-sum_by (λ (s : ShipRow). cond (eqb s.pair.0 x && eqb s.from.0 p) s.quantity 0) (λ s. cond (eqb s.pair.0 x) s.quantity 0) N.ships
    (λ s. of_one (eqb s.pair.0 x) (eqb s.from.0 p) s.quantity)

opening_by_kind : (N : Table) (lane : Lane) (item : ItemNo) (kind : LaneKind) → lane.kind ≡ kind → opening N lane item ≤ supply N (pair_on N lane item)
opening_by_kind N lane item Despatch e =
    omega (arith, opening_despatch N lane item e, figure_among N (pair_on N lane item) (supplier_of lane))
opening_by_kind N lane item Schedule e =
    omega (
      arith,
      opening_schedule N lane item e,
      figure_among N (pair_on N lane item) (supplier_of lane),
      shipped_among N (pair_on N lane item)
          (supplier_of lane),
    )

pub openings_are_supplied : OpeningsAreSupplied
openings_are_supplied N lane item = opening_by_kind N lane item lane.kind refl

-- a part is within its release
pub parts_are_within : PartsAreWithin
parts_are_within N e joins release =
    let most : release * e.high ≤ 1000 * release = omega (arith, mul-le-mul_left release joins.ends) in
    let share : (release * e.high) / 1000 ≤ release = div-le_of_le-mul 1000 most in
    omega arith
