-- The network: what comes in for one of its pairs comes over the lanes to the pair's plant.
use Rattle.std.proofs.Common.{◌≡◌, ℕ, ◌+◌, ◌<◌, ◌==◌, ◌&&◌, if◌then◌else◌, Bool, true, false, cond, inl, inr, List, [], ◌∷◌, length, get_or, map, refl, sym, ap}
use Rattle.std.proofs.Common.{◌∙◌, subst, arith}
use Rattle.std.specs.List.{range_with_len, sum_by}
use Rattle.std.proofs.lemmas.Bool.{cases_eq, cond-true, cond-false, eqb-true, eq-eqb, ne_eqb, and_from, and_parts, false_from_ne_true}
use Rattle.std.proofs.lemmas.List.Sums.{sum_by-cons}
use Rattle.mrp_qty.proofs.RangeLaws.{placed_once, sum_by-none}
use Rattle.mrp_master_data.specs.declared.numbers.ItemNo.{ItemNo}
use Rattle.mrp_master_data.specs.declared.rows.ShipRow.{ShipRow}
use Rattle.mrp_master_data.specs.declared.rows.SourceRow.{SourceRow}
use Rattle.mrp_master_data.specs.Table.{Table, IsTable, IsPair, pair_no}
use Rattle.mrp_net.specs.declared.lane.Lane.{Lane}
use Rattle.mrp_net.specs.declared.lane.LaneKind.TheVariants.{Despatch, Schedule}
use Rattle.mrp_net.specs.declared.lane.Shipment.{Shipment}
use Rattle.mrp_grouping.specs.Groups.{group}
use Rattle.mrp_net.specs.Lanes.{lanes, lanes_of, lanes_between, taken_over, item_of_source, lane_items, shipments, shipment_of, ships_from, pair_on}
use Rattle.mrp_net.specs.Lanes.{customer_of, supplier_of}
use Rattle.mrp_net.specs.LaneLaws.{is_despatch, despatches_to, arriving, IncomingComesOverLanes, ShipmentsAreOfItems}
use Rattle.mrp_net.specs.RouteLaws.{over_plants}
use Rattle.mrp_net.specs.Sums.{pair_at, no_pair, received_when_due, shipped}
use Rattle.mrp_net.proofs.Covering.{sum_by-same, sum-flat_map, sum_groups}
use Rattle.mrp_net.proofs.Local.{pair_of}
use Rattle.mrp_net.proofs.Members.{In, Contains-from_in, In-filter, In-map, any_some}
use Rattle.mrp_net.proofs.Routing.{no_lanes, some_lanes}
use Rattle.mrp_grouping.proofs.Kept.{sum_filter}
use Rattle.mrp_net.proofs.Sharing.{sum_map, pairs_are_found}
use Rattle.mrp_grouping.proofs.Sorting.{filter_none}
use Rattle.mrp_net.proofs.Twos.{some_in}

-- ---- a lane without the item has no shipments of it

-- a shipment of an item between two plants has a source that brings it
shipment_has_source : (N : Table) → IsTable N → (lane : Lane) (item : ItemNo) (k : ℕ) (d : ShipRow) → k < length N.ships
    → (get_or N.ships k d).pair.0 ≡ pair_on N lane item → (get_or N.ships k d).from.0 ≡ supplier_of lane
    → (s : SourceRow) × In (taken_over N (customer_of lane) (supplier_of lane)) s × (item_of_source N s ≡ item)
shipment_has_source N is lane item k d h to from =
    let r : ShipRow = get_or N.ships k d in
    let x = pair_on N lane item in
    let pair : IsPair N x = subst (λ (y : ℕ). IsPair N y) to (is.read.ships k d h).pair in
    let both = pair_of N x (customer_of lane) item.0 refl pair in
    let test = λ (s : SourceRow). (s.plant.0 == r.from.0) && (s.pair.0 == r.pair.0) in
    let found = any_some test N.sources (is.sourced.ships k d h) in
    let s : SourceRow = found.0 in
    let parts = and_parts (s.plant.0 == r.from.0) (s.pair.0 == r.pair.0) found.2 in
    let at : s.pair.0 ≡ x = eqb-true s.pair.0 r.pair.0 parts.1 ∙ to in
    let customer : (pair_at N s.pair.0).plant.0 ≡ customer_of lane = ap (λ (y : ℕ). (pair_at N y).plant.0) at ∙ both.0 in
    let supplier : s.plant.0 ≡ supplier_of lane = eqb-true s.plant.0 r.from.0 parts.0 ∙ from in
    let passes = and_from ((pair_at N s.pair.0).plant.0 == customer_of lane) (s.plant.0 == supplier_of lane) (eq-eqb _ _ customer) (eq-eqb _ _ supplier) in (
      s,
      In-filter (λ (q : SourceRow). ((pair_at N q.pair.0).plant.0 == customer_of lane) && (q.plant.0 == supplier_of lane)) N.sources s found.1 passes,
      ap (λ (z : ℕ). let i : ItemNo = record { 0 = z } in i) (ap (λ (y : ℕ). (pair_at N y).item.0) at ∙ both.1),
    )

-- where no source brings the item, there is no shipment
none_shipped : (N : Table) → IsTable N → (lane : Lane) (item : ItemNo)
    → ((s : SourceRow) → In (taken_over N (customer_of lane) (supplier_of lane)) s → item_of_source N s ≡ item → ⊥)
    → shipments N lane item ≡ []
none_shipped N is lane item none =
    let x = pair_on N lane item in
    ap (map shipment_of) (filter_none (λ (r : ShipRow). (r.pair.0 == x) && (r.from.0 == supplier_of lane)) N.ships
    (λ k d h. false_from_ne_true _
    (λ t.
    let parts = and_parts ((get_or N.ships k d).pair.0 == x) ((get_or N.ships k d).from.0 == supplier_of lane) t in
    let source = shipment_has_source N is lane item k d h (eqb-true _ _ parts.0) (eqb-true _ _ parts.1) in
    none source.0 source.1 source.2)))

pub shipments_are_of_items : ShipmentsAreOfItems
shipments_are_of_items N is lane item other =
    let over = taken_over N (customer_of lane) (supplier_of lane) in
    none_shipped N is lane item (λ s taken same.
    other (Contains-from_in (lane_items N lane) item (subst (λ (i : ItemNo). In (map (item_of_source N) over) i) same
    (In-map (item_of_source N) over s taken))))

-- ---- the shipments to a pair, plant by plant

regroup : (a b c : Bool) (v : ℕ) → cond c (cond (a && b) v 0) 0 ≡ cond (a && c) (cond b v 0) 0
regroup true true true v = refl
regroup true true false v = refl
regroup true false true v = refl
regroup true false false v = refl
regroup false b true v = refl
regroup false b false v = refl

cond_none : (b : Bool) → ◌≡◌ {A = ℕ} (cond b 0 0) 0
cond_none true = refl
cond_none false = refl

-- what arrives of the shipments from a plant
abbrev arrives : Table → ℕ → ℕ → ℕ → ℕ
arrives N x t supplier = arriving t (map shipment_of (ships_from N x supplier))

from_plant : (N : Table) (x t supplier : ℕ)
    → sum_by (λ s. if (s.pair.0 == x) && (s.period == t) then s.quantity else 0) (group (λ s. s.from.0) supplier N.ships) ≡ arrives N x t supplier
from_plant N x t supplier =
    let amount = λ (s : ShipRow). if (s.pair.0 == x) && (s.period == t) then s.quantity else 0 in
    let here = λ (s : ShipRow). s.from.0 == supplier in
    let of_pair = λ (s : ShipRow). (s.pair.0 == x) && (s.from.0 == supplier) in
    let in_period = λ (s : ShipRow). if s.period == t then s.quantity else 0 in
    sum_filter amount here N.ships
    ∙ sum_by-same (λ s. cond (here s) (amount s) 0) (λ s. cond (of_pair s) (in_period s) 0) N.ships
    (λ k d h. let r : ShipRow = get_or N.ships k d in regroup (r.pair.0 == x) (r.period == t) (r.from.0 == supplier) r.quantity)
    ∙ sym (sum_filter in_period of_pair N.ships)
    ∙ sym (sum_map (λ (s : Shipment). if s.period == t then s.quantity else 0) shipment_of (ships_from N x supplier))

by_plants : (N : Table) → IsTable N → (x t : ℕ) → over_plants N (arrives N x t) ≡ shipped N x t
by_plants N is x t =
    let amount = λ (s : ShipRow). if (s.pair.0 == x) && (s.period == t) then s.quantity else 0 in
    let plants = range_with_len 0 (length N.plants) in
    sum_by-same (arrives N x t) (λ k. sum_by amount (group (λ s. s.from.0) k N.ships)) plants
    (λ k d h. sym (from_plant N x t (get_or plants k d)))
    ∙ sum_groups amount (λ s. s.from.0) (length N.plants) N.ships (λ k d h. (is.read.ships k d h).from)

-- ---- the despatch lanes to a plant, plant by plant

module _ (N : Table) (is : IsTable N) (x t : ℕ) (pair : IsPair N x) where
  abbrev plant_of : ℕ
  plant_of = (pair_at N x).plant.0

  abbrev item : ItemNo
  item = (pair_at N x).item

  abbrev over_lane : Lane → ℕ
  over_lane lane = arriving t (shipments N lane item)

  abbrev goes_there : Lane → Bool
  goes_there lane = is_despatch lane.kind && (lane.receiver.0 == plant_of)

  abbrev counted : Lane → ℕ
  counted lane = cond (goes_there lane) (over_lane lane) 0

  abbrev despatch_between : ℕ → ℕ → Lane
  despatch_between customer supplier = record { kind = Despatch; sender = record { 0 = supplier }; receiver = record { 0 = customer } }

  -- a despatch lane to the plant brings what arrives from its sender
  lane_brings : (customer supplier : ℕ) → customer ≡ plant_of → over_lane (despatch_between customer supplier) ≡ arrives N x t supplier
  lane_brings customer supplier same =
      let on : pair_no N customer item.0 ≡ x = ap (λ (c : ℕ). pair_no N c item.0) same ∙ pairs_are_found N is x pair in
      ap (λ (y : ℕ). arriving t (map shipment_of (ships_from N y supplier))) on

  none_taken : (xs : List SourceRow) → length xs ≡ 0 → (s : SourceRow) → In xs s → ⊥
  none_taken xs e s h = let some = some_in xs s h in omega arith

  between_counts : (customer supplier : ℕ) → sum_by counted (lanes_between N customer supplier)
      ≡ cond (customer == plant_of) (over_lane (despatch_between customer supplier)) 0
  between_counts customer supplier =
      let lane = despatch_between customer supplier in
      elim (cases_eq (length (taken_over N customer supplier)) 0) as
      (λ _. sum_by counted (lanes_between N customer supplier) ≡ cond (customer == plant_of) (over_lane lane) 0) [
        | inl empty ↦
            let none : over_lane lane ≡ 0 = ap (arriving t) (none_shipped N is lane item
            (λ s taken same. none_taken (taken_over N customer supplier) empty s taken)) in
            ap (sum_by counted) (no_lanes N customer supplier empty)
            ∙ sym (ap (λ (v : ℕ). cond (customer == plant_of) v 0) none ∙ cond_none (customer == plant_of))
        | inr some ↦
            let back : Lane = record { kind = Schedule; sender = record { 0 = customer }; receiver = record { 0 = supplier } } in
            let both : sum_by counted (lane ∷ back ∷ []) ≡ counted lane = omega (arith, sum_by-cons counted lane (back ∷ []), sum_by-cons counted back []) in
            ap (sum_by counted) (some_lanes N customer supplier (omega arith)) ∙ both
      ]

  -- of the lanes of a customer those to the plant bring what arrives
  between_brings : (customer supplier : ℕ) → sum_by counted (lanes_between N customer supplier) ≡ cond (plant_of == customer) (arrives N x t supplier) 0
  between_brings customer supplier =
      elim (cases_eq customer plant_of) as (λ _. sum_by counted (lanes_between N customer supplier) ≡ cond (plant_of == customer) (arrives N x t supplier) 0) [
        | inl same ↦
            between_counts customer supplier
            ∙ cond-true (customer == plant_of) (over_lane (despatch_between customer supplier)) 0 (eq-eqb customer plant_of same)
            ∙ lane_brings customer supplier same
            ∙ sym (cond-true (plant_of == customer) (arrives N x t supplier) 0 (eq-eqb plant_of customer (sym same)))
        | inr other ↦
            between_counts customer supplier
            ∙ cond-false (customer == plant_of) (over_lane (despatch_between customer supplier)) 0 (ne_eqb customer plant_of other)
            ∙ sym (cond-false (plant_of == customer) (arrives N x t supplier) 0 (ne_eqb plant_of customer (λ e. other (sym e))))
      ]

  sum_where : (b : Bool) (amount : ℕ → ℕ) (ks : List ℕ) → sum_by (λ k. cond b (amount k) 0) ks ≡ cond b (sum_by amount ks) 0
  sum_where true amount ks = refl
  sum_where false amount ks = sum_by-none ks

  of_customer : (customer : ℕ) → sum_by counted (lanes_of N customer) ≡ cond (plant_of == customer) (over_plants N (arrives N x t)) 0
  of_customer customer =
      sum-flat_map counted (lanes_between N customer) (range_with_len 0 (length N.plants))
      ∙ sum_by-same (λ supplier. sum_by counted (lanes_between N customer supplier)) (λ supplier. cond (plant_of == customer) (arrives N x t supplier) 0)
      (range_with_len 0 (length N.plants))
      (λ k d h. between_brings customer (get_or (range_with_len 0 (length N.plants)) k d))
      ∙ sum_where (plant_of == customer) (arrives N x t) (range_with_len 0 (length N.plants))

  over_lanes : sum_by over_lane (despatches_to N plant_of) ≡ shipped N x t
  over_lanes =
      let own = is.read.pairs x no_pair pair in
      sum_filter over_lane goes_there (lanes N)
      ∙ sum-flat_map counted (lanes_of N) (range_with_len 0 (length N.plants))
      ∙ sum_by-same (λ customer. sum_by counted (lanes_of N customer)) (λ customer. cond (plant_of == customer) (over_plants N (arrives N x t)) 0)
      (range_with_len 0 (length N.plants))
      (λ k d h. of_customer (get_or (range_with_len 0 (length N.plants)) k d))
      ∙ placed_once (over_plants N (arrives N x t)) plant_of (length N.plants) own.plant
      ∙ by_plants N is x t

pub incoming_comes_over_lanes : IncomingComesOverLanes
incoming_comes_over_lanes N is x t pair = ap (λ (n : ℕ). received_when_due N x t + n) (sym (over_lanes N is x t pair))
