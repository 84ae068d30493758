-- The protocol: what lanes carry is small. Each item once, within the bound, and no longer than the table says.
use Rattle.std.proofs.Common.{◌≡◌, ℕ, ◌+◌, ◌*◌, ◌<◌, ◌≤◌, ◌==◌, ◌&&◌, Bool, true, false, cond, Some, inl, inr, List, [], ◌∷◌, length, get_or, map, refl, sym}
use Rattle.std.proofs.Common.{ap, subst, ◌∙◌, arith, All, Contains}
use Rattle.std.specs.Prelude.{is_some, option_map}
use Rattle.std.specs.List.{AllByRecursion, IsDistinct, find, flat_map, range_with_len, sum_by}
use Rattle.std.specs.List.Sorted.{IsNonDecreasingBy}
use Rattle.std.proofs.lemmas.Bool.{cases_Bool, and_parts, eqb-true, false≢true}
use Rattle.std.proofs.lemmas.List.{get_or-map, length-map}
use Rattle.std.proofs.lemmas.List.Elements.{All-filter, All-map, filter_agree, Contains-get_or}
use Rattle.std.proofs.lemmas.List.Concat.{length-flat_map}
use Rattle.std.proofs.lemmas.List.FromFn.{length-range_with_len}
use Rattle.std.proofs.lemmas.List.Sums.{sum_by-cons, sum_by-le, sum_by-le-sum_by}
use Rattle.mrp_qty.specs.declared.limits.TheConstants.{MOST_OF_A_KIND, MOST_PLANTS, MOST_SOURCES}
use Rattle.mrp_qty.specs.declared.quantity.TheConstants.{MOST}
use Rattle.mrp_master_data.specs.declared.numbers.ItemNo.{ItemNo}
use Rattle.mrp_master_data.specs.declared.rows.ResetRow.{ResetRow}
use Rattle.mrp_master_data.specs.declared.rows.ShipRow.{ShipRow}
use Rattle.mrp_master_data.specs.declared.rows.SourceRow.{SourceRow}
use Rattle.mrp_master_data.specs.Table.{Table, IsTable, horizon, arrivals, rises_from}
use Rattle.mrp_net.specs.declared.lane.Lane.{Lane}
use Rattle.mrp_net.specs.declared.lane.LaneKind.{LaneKind}
use Rattle.mrp_net.specs.declared.lane.LaneKind.TheVariants.{Despatch, Schedule}
use Rattle.mrp_net.specs.declared.lane.Shipment.{Shipment}
use Rattle.mrp_net.specs.Lanes.{lanes, lanes_of, lanes_between, taken_over, lane_items, supplier_of, figure, shipped_from, ships_from, shipment_of, shipments}
use Rattle.mrp_net.specs.Lanes.{opening, reset, pair_on, is_reset_of}
use Rattle.mrp_net.specs.LaneLaws.{HasSource, is_schedule}
use Rattle.mrp_net.specs.Plan.{plan_of}
use Rattle.mrp_net.specs.Sources.{source_on}
use Rattle.mrp_net.specs.Texts.{longest_block}
use Rattle.mrp_net.proofs.Behind.{items_have_sources}
use Rattle.mrp_net.proofs.Covering.{lane_items_stand_once}
use Rattle.mrp_net.proofs.Lengths.{block_is_short, lane_items_are_few}
use Rattle.mrp_net.proofs.Members.{In, In-from_contains, Contains-from_in, In-map, All-in}
use Rattle.mrp_net.proofs.Parting.{items_are_few}
use Rattle.mrp_net.proofs.Routing.{opening_despatch, map-map}
use Rattle.mrp_net.proofs.Sharing.{sum_map}
use Rattle.mrp_grouping.proofs.Kept.{sum_filter}
use Rattle.mrp_loops.specs.Sized.{IsSized}
use Rattle.mrp_loops.proofs.Carried.{lane_figures_within}
use Rattle.mrp_loops.proofs.OnePlan.{one_plan}
use Rattle.mrp_loops.proofs.Within.{figures_within}
use Rattle.mrp_record.specs.Entries.{Delivery}
use Rattle.mrp_record.specs.Laws as record_laws
use Rattle.mrp_record.specs.Laws.{IsSmall}
use Rattle.mrp_record.specs.Text.{Load, total}
use Rattle.mrp_record.specs.Lengths.{block_length, length_of_text}
use Rattle.mrp_record.proofs.Beginnings as beginnings
use Rattle.mrp_record.proofs.Forming as forming
use Rattle.mrp_protocol.specs.Loads.{delivery_of, despatched, called_in, called, lines_by, load_of, loads}
use Rattle.mrp_protocol.specs.LoadLaws.{LoadsStandOnce, LoadsAreSmall, OpeningsAreSmall, LegalIsInForm}
use Rattle.mrp_protocol.specs.LoadLaws.{LegalFiguresAreSmall, LegalCumsAreSmall, TextsAreNoLonger}
use Rattle.mrp_protocol.specs.LoadLaws.{LaneBeginningsAreNoLonger, StepsAreFew}
use Rattle.mrp_protocol.proofs.Calling.{source_over, source_item}
use Rattle.mrp_protocol.proofs.Delivered.{by_period_total, by_period_some, by_period_inside, by_period_rises, by_period_length, in_order, rises_in_order}
use Rattle.mrp_master_data.proofs.LimitFacts.{any_limited}

-- ---- each item has one load

none_alike : (N : Table) (lane : Lane) (item : ItemNo) (items : List ItemNo) → AllByRecursion (λ i. (item.0 == i.0) ≡ false) items
    → AllByRecursion (λ load. record_laws.is_same_load (load_of N lane item) load ≡ false) (map (load_of N lane) items)
none_alike N lane item [] h = tt
none_alike N lane item (i ∷ items) h = (h.0, none_alike N lane item items h.1)

loads_distinct : (N : Table) (lane : Lane) (items : List ItemNo) → IsDistinct (λ i j. i.0 == j.0) items
    → IsDistinct record_laws.is_same_load (map (load_of N lane) items)
unfolding IsDistinct
loads_distinct N lane [] h = tt
loads_distinct N lane (item ∷ items) h = (none_alike N lane item items h.0, loads_distinct N lane items h.1)

pub loads_stand_once : LoadsStandOnce
loads_stand_once N is lane = loads_distinct N lane (lane_items N lane) (lane_items_stand_once N is lane)

pub load_is_there : (N : Table) (lane : Lane) (item : ItemNo) → Contains (lane_items N lane) item → Contains (loads N lane) (load_of N lane item)
load_is_there N lane item h = Contains-from_in (loads N lane) (load_of N lane item)
    (In-map (load_of N lane) (lane_items N lane) item (In-from_contains (lane_items N lane) item h))

-- ---- lengths

lines_are_few : (N : Table) (lane : Lane) (item : ItemNo) (kind : LaneKind) → lane.kind ≡ kind
    → length (lines_by N kind lane item) ≤ elim kind as (λ _. ℕ) [ Despatch ↦ length (shipments N lane item) | Schedule ↦ horizon N ]
lines_are_few N lane item Despatch e = omega (arith, length-map (shipments N lane item) delivery_of)
lines_are_few N lane item Schedule e = by_period_length (called_in N (source_on N lane item)) (horizon N)

block_is_no_longer : (N : Table) (lane : Lane) (item : ItemNo) → block_length (load_of N lane item) ≤ longest_block N lane item
block_is_no_longer N lane item = omega (arith, lines_are_few N lane item lane.kind refl)

pub texts_are_no_longer : TextsAreNoLonger
texts_are_no_longer N lane =
    omega (
      arith,
      sum_map block_length (load_of N lane) (lane_items N lane),
      sum_by-le-sum_by (λ item. block_length (load_of N lane item))
          (longest_block N lane) (lane_items N lane) (block_is_no_longer N lane),
    )

pub beginnings_are_no_longer : LaneBeginningsAreNoLonger
beginnings_are_no_longer N lane records h =
    omega (arith, beginnings.beginnings_are_no_longer (loads N lane) records h, texts_are_no_longer N lane)

-- a text is its closing line and the blocks of its items
length_by_items : (N : Table) (lane : Lane) → IsTable N → length_of_text (loads N lane) ≤ length (lane_items N lane) * (MOST_OF_A_KIND + 2) + 1
length_by_items N lane is =
    let each : All (λ item. longest_block N lane item ≤ MOST_OF_A_KIND + 2) (lane_items N lane) =
    λ k d h. block_is_short N lane (get_or (lane_items N lane) k d) is in
    omega (arith, texts_are_no_longer N lane, sum_by-le (longest_block N lane) (MOST_OF_A_KIND + 2) (lane_items N lane) each)

length_is_short : (N : Table) (lane : Lane) → IsTable N → length_of_text (loads N lane) ≤ MOST_SOURCES * (MOST_OF_A_KIND + 2) + 1
length_is_short N lane is = omega (arith, length_by_items N lane is, lane_items_are_few N lane is)

-- ---- how long a run is

between_are_two : (N : Table) (customer supplier : ℕ) → length (lanes_between N customer supplier) ≤ 2
between_are_two N customer supplier = elim (cases_Bool (length (taken_over N customer supplier) == 0)) [
  | inl none ↦ rw none (omega arith)
  | inr some ↦ rw some (omega arith)
]

lanes_are_few : (N : Table) → IsTable N → length (lanes N) ≤ MOST_PLANTS * (2 * MOST_PLANTS)
lanes_are_few N is =
    let plants : List ℕ = range_with_len 0 (length N.plants) in
    let size : length plants ≡ length N.plants = length-range_with_len 0 (length N.plants) in
    let pieces : (f : ℕ → List Lane) (most : ℕ) → ((k : ℕ) → length (f k) ≤ most) → length (flat_map f plants) ≤ length plants * most =
    λ f most each. omega (arith, length-flat_map f plants, sum_by-le (λ k. length (f k)) most plants (λ k d h. each (get_or plants k d))) in
    let of_one : (customer : ℕ) → length (lanes_of N customer) ≤ 2 * MOST_PLANTS =
    λ customer. omega (arith, pieces (lanes_between N customer) 2 (between_are_two N customer), size, (any_limited N is.read.limits).plants) in
    omega (arith, pieces (lanes_of N) (2 * MOST_PLANTS) of_one, size, (any_limited N is.read.limits).plants)

-- the texts of lanes together: their closing lines, and the blocks of their items
texts_by_items : (N : Table) (ls : List Lane) → IsTable N
    → sum_by (λ (lane : Lane). length_of_text (loads N lane)) ls
    ≤ sum_by (λ (lane : Lane). length (lane_items N lane)) ls * (MOST_OF_A_KIND + 2) + length ls
texts_by_items N [] is = omega arith
texts_by_items N (lane ∷ ls) is =
    omega (
      arith,
      sum_by-cons (λ (lane : Lane). length_of_text (loads N lane)) lane ls,
      sum_by-cons (λ (lane : Lane). length (lane_items N lane)) lane ls,
      length_by_items N lane is,
      texts_by_items N ls is,
    )

pub steps_are_few : StepsAreFew
steps_are_few N is = omega (
  arith,
  texts_by_items N (lanes N) is,
  items_are_few N,
  lanes_are_few N is,
  (any_limited N is.read.limits).sources,
  (any_limited N is.read.limits).pairs,
)

-- ---- shipments

some_found : {X Y : Type 0} (p : X → Bool) (f : X → Y) (xs : List X) → is_some (option_map f (find p xs)) ≡ true → (x : X) × In xs x × (p x ≡ true)
some_found p f [] h = absurd (false≢true h)
some_found {X} {Y} p f (x ∷ xs) h = elim (cases_Bool (p x)) [
  | inl passes ↦ (x, inl refl, passes)
  | inr fails ↦
      let later = some_found p f xs (subst (λ (b : Bool). is_some (option_map f (cond b (Some x) (find p xs))) ≡ true) fails h) in
      (later.0, inr later.1, later.2)
]

either_way : (a b : Bool) → (a && b) ≡ (b && a)
either_way true true = refl
either_way true false = refl
either_way false true = refl
either_way false false = refl

in_order_by : {X : Type 0} (key : X → ℕ) (xs : List X) → rises_from 0 (map key xs) ≡ true → IsNonDecreasingBy key xs
in_order_by key xs rises i j d le h =
    let first = get_or-map key xs i d 0 (omega arith) in
    let second = get_or-map key xs j d 0 h in
    omega (arith, first, second, rises_in_order 0 (map key xs) rises i j 0 le (omega (arith, length-map xs key)))

-- the pieces of a despatch lane's shipments of an item
pub shipped_total : (N : Table) (lane : Lane) (item : ItemNo) → total (despatched N lane item) ≡ shipped_from N (pair_on N lane item) (supplier_of lane)
shipped_total N lane item =
    let x : ℕ = pair_on N lane item in
    let p : ℕ = supplier_of lane in
    sum_map (λ (l : Delivery). l.quantity) delivery_of (shipments N lane item)
    ∙ sum_map (λ (s : Shipment). s.quantity) shipment_of (ships_from N x p)
    ∙ sum_filter (λ (s : ShipRow). s.quantity) (λ (s : ShipRow). (s.pair.0 == x) && (s.from.0 == p)) N.ships

module _ (N : Table) (sized : IsSized N) (lane : Lane) (item : ItemNo) (has : HasSource N lane item) where
  abbrev x : ℕ
  x = pair_on N lane item

  abbrev p : ℕ
  p = supplier_of lane

  abbrev is_sent : ShipRow → Bool
  is_sent s = (s.pair.0 == x) && (s.from.0 == p)

  shipped_some : All (λ line. 1 ≤ line.quantity) (despatched N lane item)
  shipped_some =
      All-map (λ (l : Delivery). 1 ≤ l.quantity) delivery_of (shipments N lane item)
      (All-map (λ (s : Shipment). 1 ≤ s.quantity) shipment_of (ships_from N x p)
      (All-filter is_sent (λ (s : ShipRow). 1 ≤ s.quantity) N.ships (λ k d h. (sized.table.read.ships k d h).some)))

  shipped_inside : All (λ line. line.period < horizon N) (despatched N lane item)
  shipped_inside =
      All-map (λ (l : Delivery). l.period < horizon N) delivery_of (shipments N lane item)
      (All-map (λ (s : Shipment). s.period < horizon N) shipment_of (ships_from N x p)
      (All-filter is_sent (λ (s : ShipRow). s.period < horizon N) N.ships (λ k d h. (sized.table.read.ships k d h).period)))

  within : figure N x p + shipped_from N x p ≤ MOST
  within =
      let fits = (one_plan N sized.table sized.loop_free).fits in
      omega (arith, figures_within N sized (plan_of N) fits x p has.customer.pair)

  -- ---- parts of releases

  called_within : opening N lane item + total (called N lane item) ≤ MOST
  called_within =
      let s : SourceRow = source_on N lane item in
      omega (
        arith,
        lane_figures_within N sized lane s (source_over N lane item has),
        ap (opening N lane) (source_item N lane item has),
        by_period_total (called_in N s) (horizon N),
      )

  -- ---- where figures start anew

  shipped_order : is_some (reset N lane item) ≡ true → IsNonDecreasingBy (λ line. line.period) (despatched N lane item)
  shipped_order anew =
      let found = some_found (is_reset_of x p) (λ (r : ResetRow). r.period) N.resets anew in
      let r : ResetRow = found.0 in
      let parts = and_parts (r.pair.0 == x) (r.from.0 == p) found.2 in
      let here = All-in (λ (r : ResetRow). rises_from 0 (arrivals N r.from.0 r.pair.0) ≡ true) N.resets r sized.table.sourced.arrive found.1 in
      let at_p = subst (λ (z : ℕ). rises_from 0 (arrivals N z r.pair.0) ≡ true) (eqb-true r.from.0 p parts.1) here in
      let at_x = subst (λ (z : ℕ). rises_from 0 (arrivals N p z) ≡ true) (eqb-true r.pair.0 x parts.0) at_p in
      let same : map (λ (l : Delivery). l.period) (despatched N lane item) ≡ arrivals N p x =
      map-map (λ (l : Delivery). l.period) delivery_of (shipments N lane item)
      ∙ map-map (λ (s : Shipment). s.period) shipment_of (ships_from N x p)
      ∙ ap (map (λ (s : ShipRow). s.period)) (filter_agree is_sent (λ (s : ShipRow). (s.from.0 == p) && (s.pair.0 == x))
      (λ s. either_way (s.pair.0 == x) (s.from.0 == p)) N.ships) in
      in_order_by (λ (l : Delivery). l.period) (despatched N lane item) (subst (λ (ns : List ℕ). rises_from 0 ns ≡ true) (sym same) at_x)

  -- ---- both kinds of lanes

  abbrev load_by : LaneKind → Load
  load_by kind = record { item = item.0; opening = opening N lane item; reset = reset N lane item; lines = lines_by N kind lane item }

  small_by : (kind : LaneKind) → lane.kind ≡ kind → IsSmall (is_schedule kind) (horizon N) (load_by kind)
  small_by Despatch e = record {
    some = shipped_some;
    inside = shipped_inside;
    rises = λ t. absurd (false≢true t);
    order = shipped_order;
    figures = omega (arith, opening_despatch N lane item e, shipped_total N lane item, within);
  }
  small_by Schedule e =
      let amount = called_in N (source_on N lane item) in
      record {
        some = by_period_some amount (horizon N);
        inside = by_period_inside amount (horizon N);
        rises = λ _. by_period_rises amount (horizon N);
        order = λ _. in_order (called N lane item) (by_period_rises amount (horizon N));
        figures = called_within;
      }

pub load_is_small : (N : Table) → IsSized N → (lane : Lane) (item : ItemNo) → Contains (lane_items N lane) item
    → IsSmall (is_schedule lane.kind) (horizon N) (load_of N lane item)
load_is_small N sized lane item there = small_by N sized lane item (items_have_sources N sized.table lane item there) lane.kind refl

pub loads_are_small : LoadsAreSmall
loads_are_small N sized lane = (
  All-map (IsSmall (is_schedule lane.kind) (horizon N)) (load_of N lane) (lane_items N lane)
      (λ k d h. load_is_small N sized lane (get_or (lane_items N lane) k d) (Contains-get_or (lane_items N lane) k d h)),
  (omega (arith, length_is_short N lane sized.table)),
)

pub openings_are_small : OpeningsAreSmall
openings_are_small N sized lane item there = omega (arith, (load_is_small N sized lane item there).figures)

-- ---- legal beginnings

pub legal_is_in_form : LegalIsInForm
legal_is_in_form N sized lane records h =
    forming.beginnings_are_in_form (is_schedule lane.kind) (horizon N) (loads N lane) (loads_stand_once N sized.table lane)
    (loads_are_small N sized lane) records h

pub legal_figures_are_small : LegalFiguresAreSmall
legal_figures_are_small N sized lane records h =
    forming.figures_are_small (is_schedule lane.kind) (horizon N) (loads N lane) (loads_stand_once N sized.table lane) (loads_are_small N sized lane) records h

pub legal_cums_are_small : LegalCumsAreSmall
legal_cums_are_small N sized lane records h item there =
    forming.cums_are_small (is_schedule lane.kind) (horizon N) (loads N lane) (loads_stand_once N sized.table lane) (loads_are_small N sized lane) records h
    (load_of N lane item) (load_is_there N lane item there)
