-- The view of one plant: the lanes in it, for an accepted table, which are those that the plant receives or sends.
use Rattle.std.proofs.Common.{◌≡◌, ℕ, ◌+◌, ◌-◌, ◌*◌, ◌/◌, ◌<◌, ◌≤◌, ◌&&◌, true, eqb, List, [], ◌∷◌, Option, None, Some, ◌⊎◌, inl, inr, length, get_or, map}
use Rattle.std.proofs.Common.{refl, sym, ap, ◌∙◌, subst, arith}
use Rattle.std.specs.List.{All, Contains, count_by, filter, find}
use Rattle.std.specs.Option.{IfSome, option_map}
use Rattle.std.proofs.lemmas.Bool.{cond_both, eq-eqb, eqb-true}
use Rattle.std.proofs.lemmas.List.Elements.{All-nil, All-head, All-tail, All-filter, All-map, filter_passes, Contains-get_or}
use Rattle.mrp_master_data.specs.declared.numbers.ItemNo.{ItemNo}
use Rattle.mrp_master_data.specs.declared.numbers.PairNo.{PairNo}
use Rattle.mrp_master_data.specs.declared.numbers.PlantNo.{PlantNo}
use Rattle.mrp_master_data.specs.declared.rows.ResetRow.{ResetRow}
use Rattle.mrp_master_data.specs.declared.rows.ShipRow.{ShipRow}
use Rattle.mrp_master_data.specs.Table.{Table, IsTable, IsShipRow, horizon, pair_no}
use Rattle.mrp_net.specs.declared.lane.Lane.{Lane}
use Rattle.mrp_net.specs.declared.lane.LaneKind.{LaneKind}
use Rattle.mrp_net.specs.declared.lane.LaneKind.TheVariants.{Despatch, Schedule}
use Rattle.mrp_net.specs.declared.lane.Shipment.{Shipment}
use Rattle.mrp_plant_view.specs.declared.view.IncomingItem.{IncomingItem}
use Rattle.mrp_plant_view.specs.declared.view.IncomingLane.{IncomingLane}
use Rattle.mrp_plant_view.specs.declared.view.OutgoingLane.{OutgoingLane}
use Rattle.mrp_net.specs.Lanes.{lanes, lane_at, lane_items, figure, shipments, shipment_of, ships_from, is_reset_of, anew_in, reset, pair_on, supplier_of}
use Rattle.mrp_plant_view.specs.Loads.{OutgoingLoad, call_of}
use Rattle.mrp_plant_view.specs.Seen.{IsOwnOf, IsIncomingItem, IsIncomingLane, IsShipment, IsOutgoingItem}
use Rattle.mrp_plant_view.specs.Seen.{IsOutgoingLane, CallsForNothing, HasCall, IsScheduleLane}
use Rattle.mrp_plant_view.specs.Seen.{despatched_item, lane_before}
use Rattle.mrp_net.specs.Sources.{source_no, source_on, no_source}
use Rattle.mrp_net.specs.Sums.{pair_at}
use Rattle.mrp_plant_view.specs.View.{comes_to, goes_from, lane_numbers, incoming_item, incoming_lane, incoming_lanes, sent_on, outgoing_item, outgoing_lane}
use Rattle.mrp_plant_view.specs.View.{outgoing_lanes, plant_rows}
use Rattle.mrp_net.proofs.Behind.{items_have_sources, receiver_is}
use Rattle.mrp_net.proofs.Covering.{lane_items_stand_once}
use Rattle.mrp_net.proofs.Members.{Contains-from_in, In-filter, In-map, In-range}
use Rattle.mrp_plant_view.proofs.Calling.{nothing_called}
use Rattle.mrp_plant_view.proofs.Once.{count-map, count-filter, count_range, count_within, count_distinct}
use Rattle.mrp_net.proofs.Routing.{map-map}
use Rattle.mrp_plant_view.proofs.Seeing.{owned, is_own_of}
use Rattle.mrp_net.proofs.Sourcing.{item_is_taken, source_within}
use Rattle.mrp_net.proofs.Summing.{figure_within}
use Rattle.mrp_net.proofs.Twos.{lanes_come_in_twos}

-- ---- new starts and shipments are within the periods

find_within : (n x p : ℕ) (rows : List ResetRow) → All (λ r. r.period < n) rows → IfSome (anew_in rows x p) (λ period. period < n)
find_within n x p [] h = tt
find_within n x p (r ∷ rows) h =
    cond_both (is_reset_of x p r) (Some r) (find (is_reset_of x p) rows)
    (λ (o : Option ResetRow). IfSome (option_map (λ (z : ResetRow). z.period) o) (λ period. period < n))
    (λ _. All-head (λ (r : ResetRow). r.period < n) r rows h)
    (λ _. find_within n x p rows (All-tail (λ (r : ResetRow). r.period < n) r rows h))

reset_within : (N : Table) (x p : ℕ) → IsTable N → IfSome (anew_in N.resets x p) (λ period. period < horizon N)
reset_within N x p is = find_within (horizon N) x p N.resets (λ k d h. (is.read.resets k d h).period)

ships_within : (N : Table) (plant x p : ℕ) → IsTable N → All (IsShipment (plant_rows N plant)) (map shipment_of (ships_from N x p))
ships_within N plant x p is =
    let test = λ (s : ShipRow). eqb s.pair.0 x && eqb s.from.0 p in
    All-map (IsShipment (plant_rows N plant)) shipment_of (ships_from N x p)
    (λ k d h. let row = All-filter test (IsShipRow N) N.ships is.read.ships k d h in
    record { period = row.period; some = row.some; quantity = row.quantity })

sent_by_kind : (N : Table) (plant : ℕ) (lane : Lane) (item : ItemNo) (kind : LaneKind) → lane.kind ≡ kind → IsTable N
    → All (IsShipment (plant_rows N plant)) (sent_on N lane item)
sent_by_kind N plant lane item Despatch e is =
    subst (All (IsShipment (plant_rows N plant))) (sym (ap (λ (k : LaneKind). elim k as
    (λ _. List Shipment) [ Despatch ↦ shipments N lane item | Schedule ↦ [] ]) e))
    (ships_within N plant (pair_on N lane item) (supplier_of lane) is)
sent_by_kind N plant lane item Schedule e is =
    subst (All (IsShipment (plant_rows N plant))) (sym (ap (λ (k : LaneKind). elim k as
    (λ _. List Shipment) [ Despatch ↦ shipments N lane item | Schedule ↦ [] ]) e))
    (All-nil (IsShipment (plant_rows N plant)))

-- ---- lanes that come in

incoming_once_of : (N : Table) (lane : Lane) (item : ℕ) → IsTable N → count_by (λ i. eqb i.0 item) (lane_items N lane) ≤ 1
incoming_once_of N lane item is = count_distinct (λ (i : ItemNo). i.0) item (lane_items N lane) (lane_items_stand_once N is lane)

incoming_item_is : (N : Table) (plant : ℕ) (lane : Lane) → IsTable N → lane.receiver.0 ≡ plant
    → All (λ item. IsIncomingItem (plant_rows N plant) (incoming_item N lane item)) (lane_items N lane)
incoming_item_is N plant lane is here = λ k d h.
    let item : ItemNo = get_or (lane_items N lane) k d in
    let x : PairNo = record { 0 = pair_no N lane.receiver.0 item.0 } in
    let of = receiver_is N lane item (items_have_sources N is lane item (Contains-get_or (lane_items N lane) k d h)) in
    record {
      pair = is_own_of N plant x item of.pair (of.at_plant ∙ here) of.of_item;
      reset = reset_within N (pair_on N lane item) (supplier_of lane) is;
    }

incoming_lane_is : (N : Table) (plant l : ℕ) → IsTable N → (lane_at N l).receiver.0 ≡ plant → IsIncomingLane (plant_rows N plant) (incoming_lane N l)
incoming_lane_is N plant l is here =
    let lane : Lane = lane_at N l in
    record {
      once = λ item. omega (
        arith,
        count-map (λ (i : IncomingItem). eqb i.item.0 item) (incoming_item N lane)
            (lane_items N lane),
        incoming_once_of N lane item is,
      );
      items = All-map (IsIncomingItem (plant_rows N plant)) (incoming_item N lane) (lane_items N lane) (incoming_item_is N plant lane is here);
    }

pub incoming_are : (N : Table) (plant : ℕ) → IsTable N → All (IsIncomingLane (plant_rows N plant)) (incoming_lanes N plant)
incoming_are N plant is =
    All-map (IsIncomingLane (plant_rows N plant)) (incoming_lane N) (filter (comes_to N plant) (lane_numbers N))
    (λ k d h. let l : ℕ = get_or (filter (comes_to N plant) (lane_numbers N)) k d in
    incoming_lane_is N plant l is (eqb-true (lane_at N l).receiver.0 plant (filter_passes (comes_to N plant) (lane_numbers N) k d h)))

pub incoming_stand_once : (N : Table) (plant l : ℕ) → count_by (λ lane. eqb lane.number.0 l) (incoming_lanes N plant) ≤ 1
incoming_stand_once N plant l =
    omega (
      arith,
      count-map (λ (lane : IncomingLane). eqb lane.number.0 l) (incoming_lane N) (filter (comes_to N plant) (lane_numbers N)),
      count-filter
          (λ k. eqb k l) (comes_to N plant) (lane_numbers N),
      count_range 0 (length (lanes N)) l,
    )

-- ---- lanes that go out

outgoing_item_is : (N : Table) (plant : ℕ) (lane : Lane) → IsTable N
    → All (λ item. IsOutgoingItem (plant_rows N plant) (outgoing_item N lane item)) (lane_items N lane)
outgoing_item_is N plant lane is = λ k d h.
    let item : ItemNo = get_or (lane_items N lane) k d in
    let x : ℕ = pair_on N lane item in
    let p : ℕ = supplier_of lane in
    record {
      figure = figure_within N is x p;
      shipments = sent_by_kind N plant lane item lane.kind refl is;
      reset = reset_within N x p is;
    }

customers_once_of : (N : Table) (lane : Lane) (x : ℕ) → IsTable N → count_by (λ item. eqb (source_on N lane item).pair.0 x) (lane_items N lane) ≤ 1
customers_once_of N lane x is =
    let of_x : ℕ = (pair_at N x).item.0 in
    let found : All (λ item. eqb (source_on N lane item).pair.0 x ≡ true → eqb item.0 of_x ≡ true) (lane_items N lane) = λ k d h t.
    let item : ItemNo = get_or (lane_items N lane) k d in
    let has = items_have_sources N is lane item (Contains-get_or (lane_items N lane) k d h) in
    let same : pair_on N lane item ≡ x = sym has.taker ∙ eqb-true (source_on N lane item).pair.0 x t in
    eq-eqb item.0 of_x (sym (ap (λ (i : ItemNo). i.0) has.customer.of_item) ∙ ap (λ (z : ℕ). (pair_at N z).item.0) same) in
    omega (
      arith,
      count_within (λ item. eqb (source_on N lane item).pair.0 x) (λ item. eqb item.0 of_x)
          (lane_items N lane) found,
      incoming_once_of N lane of_x is,
    )

outgoing_lane_is : (N : Table) (plant l : ℕ) → IsTable N → IsOutgoingLane (plant_rows N plant) (outgoing_lane N l)
outgoing_lane_is N plant l is =
    let lane : Lane = lane_at N l in
    record {
      once = λ item. omega (
        arith,
        count-map (λ (i : OutgoingLoad). eqb i.item.0 item) (outgoing_item N lane)
            (lane_items N lane),
        incoming_once_of N lane item is,
      );
      items = All-map (IsOutgoingItem (plant_rows N plant)) (outgoing_item N lane) (lane_items N lane) (outgoing_item_is N plant lane is);
    }

pub outgoing_are : (N : Table) (plant : ℕ) → IsTable N → All (IsOutgoingLane (plant_rows N plant)) (outgoing_lanes N plant)
outgoing_are N plant is =
    All-map (IsOutgoingLane (plant_rows N plant)) (outgoing_lane N) (filter (goes_from N plant) (lane_numbers N))
    (λ k d h. outgoing_lane_is N plant (get_or (filter (goes_from N plant) (lane_numbers N)) k d) is)

-- ---- despatch lanes

pub despatches_are : (N : Table) (plant : ℕ) → All (λ lane. lane.kind ≡ Despatch → CallsForNothing lane) (outgoing_lanes N plant)
despatches_are N plant =
    All-map (λ (lane : OutgoingLane). lane.kind ≡ Despatch → CallsForNothing lane) (outgoing_lane N) (filter (goes_from N plant) (lane_numbers N))
    (λ k d h kind. let lane : Lane = lane_at N (get_or (filter (goes_from N plant) (lane_numbers N)) k d) in
    All-map (λ (i : OutgoingLoad). i.call ≡ None) (outgoing_item N lane) (lane_items N lane)
    (λ j e within. nothing_called N lane (get_or (lane_items N lane) j e) kind))

pub outgoing_stand_once : (N : Table) (plant l : ℕ) → count_by (λ lane. eqb lane.number.0 l) (outgoing_lanes N plant) ≤ 1
outgoing_stand_once N plant l =
    omega (
      arith,
      count-map (λ (lane : OutgoingLane). eqb lane.number.0 l) (outgoing_lane N) (filter (goes_from N plant) (lane_numbers N)),
      count-filter
          (λ k. eqb k l) (goes_from N plant) (lane_numbers N),
      count_range 0 (length (lanes N)) l,
    )

-- ---- schedule lanes, and the despatch lane before each

-- between a customer and a supplier
abbrev despatch : PlantNo → PlantNo → Lane
despatch customer supplier = record { kind = Despatch; sender = supplier; receiver = customer }

abbrev schedule : PlantNo → PlantNo → Lane
schedule customer supplier = record { kind = Schedule; sender = customer; receiver = supplier }

map_alike : {X Y : Type 0} (f g : X → Y) (xs : List X) → All (λ x. f x ≡ g x) xs → map f xs ≡ map g xs
map_alike f g [] h = refl
map_alike {X} {Y} f g (x ∷ xs) h =
    ap (λ (z : Y). z ∷ map f xs) (All-head (λ x. f x ≡ g x) x xs h) ∙ ap (λ (z : List Y). g x ∷ z) (map_alike f g xs (All-tail (λ x. f x ≡ g x) x xs h))

despatched_items : (N : Table) (customer supplier : PlantNo) → IsTable N
    → map despatched_item (map (outgoing_item N (schedule customer supplier)) (lane_items N (schedule customer supplier)))
    ≡ map (incoming_item N (despatch customer supplier)) (lane_items N (despatch customer supplier))
despatched_items N customer supplier is =
    let lane : Lane = schedule customer supplier in
    map-map despatched_item (outgoing_item N lane) (lane_items N lane)
    ∙ map_alike (λ item. despatched_item (outgoing_item N lane item)) (incoming_item N (despatch customer supplier)) (lane_items N lane)
    (λ k d h.
    let item : ItemNo = get_or (lane_items N lane) k d in
    let has = items_have_sources N is lane item (Contains-get_or (lane_items N lane) k d h) in
    ap (λ (z : ℕ). let i : IncomingItem = record {
      item = item;
      pair = record { 0 = z };
      opening = figure N (pair_on N lane item) supplier.0;
      reset =
          reset N lane item;
    } in i) has.taker)

-- the parts of a lane that goes out and of one that comes in, for any lane in its place
abbrev goes_out : Table → ℕ → Lane → OutgoingLane
goes_out N l lane = record { number = record { 0 = l }; kind = lane.kind; items = map (outgoing_item N lane) (lane_items N lane) }

abbrev comes_in : Table → ℕ → Lane → IncomingLane
comes_in N l lane = record { number = record { 0 = l }; kind = lane.kind; items = map (incoming_item N lane) (lane_items N lane) }

-- among the lanes a schedule lane stands after the despatch lane of the same two plants
record StandsAfter (N : Table) (l : ℕ) : Type 0 where
  customer : PlantNo
  supplier : PlantNo
  after : 1 ≤ l
  first : lane_at N (l - 1) ≡ despatch customer supplier
  second : lane_at N l ≡ schedule customer supplier

by_halves : (l : ℕ) → (l ≡ 2 * (l / 2)) ⊎ (l ≡ 2 * (l / 2) + 1)
by_halves l = grind arith

kinds_apart : Despatch ≡ Schedule → ⊥
kinds_apart e = cc

stands_after : (N : Table) (l : ℕ) → l < length (lanes N) → (lane_at N l).kind ≡ Schedule → StandsAfter N l
stands_after N l within kind =
    let k : ℕ = l / 2 in
    elim (by_halves l) as (λ _. StandsAfter N l) [
      | inl even ↦
          let both = (lanes_come_in_twos N k (omega arith)).1 in
          absurd (kinds_apart (sym both.first ∙ ap (λ (z : ℕ). (lane_at N z).kind) (sym even) ∙ kind))
      | inr odd ↦
          let both = (lanes_come_in_twos N k (omega arith)).1 in
          let d : Lane = lane_at N (2 * k) in
          let before : l - 1 ≡ 2 * k = omega arith in
          let first : d ≡ despatch d.receiver d.sender = ap (λ (z : LaneKind). let a : Lane =
          record { kind = z; sender = d.sender; receiver = d.receiver } in a) both.first in
          let s : Lane = lane_at N (2 * k + 1) in
          let second : s ≡ schedule d.receiver d.sender =
          ap (λ (z : LaneKind). let a : Lane = record { kind = z; sender = s.sender; receiver = s.receiver } in a) both.second
          ∙ ap (λ (z : PlantNo). let a : Lane = record { kind = Schedule; sender = z; receiver = s.receiver } in a) both.customer
          ∙ ap (λ (z : PlantNo). let a : Lane = record { kind = Schedule; sender = d.receiver; receiver = z } in a) both.supplier in
          record {
            customer = d.receiver;
            supplier = d.sender;
            after = omega arith;
            first = ap (lane_at N) before ∙ first;
            second = ap (lane_at N) odd ∙ second;
          }
    ]

-- each of its items is called for by the pair of the customer's own
calls_are : (N : Table) (plant : ℕ) (customer supplier : PlantNo) → IsTable N → customer.0 ≡ plant
    → All (λ item. HasCall (plant_rows N plant) (outgoing_item N (schedule customer supplier) item)) (lane_items N (schedule customer supplier))
calls_are N plant customer supplier is mine = λ k d h.
    let lane : Lane = schedule customer supplier in
    let item : ItemNo = get_or (lane_items N lane) k d in
    let in_lane = Contains-get_or (lane_items N lane) k d h in
    let has = items_have_sources N is lane item in_lane in
    let x : PairNo = record { 0 = pair_on N lane item } in
    let within = source_within N (pair_on N lane item) (supplier_of lane) (item_is_taken N lane item is in_lane) in
    let row = is.read.sources (source_no N (pair_on N lane item) (supplier_of lane)) no_source within in
    record {
      there = refl;
      own = subst (λ (z : PairNo). IsOwnOf (plant_rows N plant) z item) (ap (λ (z : ℕ). let y : PairNo = record { 0 = z } in y) (sym has.taker))
          (is_own_of N plant x item has.customer.pair (has.customer.at_plant ∙ mine) has.customer.of_item);
      rises = row.rises;
      ends = row.ends;
    }

schedule_lane_is : (N : Table) (plant l : ℕ) → IsTable N → l < length (lanes N) → (lane_at N l).sender.0 ≡ plant → (lane_at N l).kind ≡ Schedule
    → IsScheduleLane (plant_rows N plant) (outgoing_lane N l)
schedule_lane_is N plant l is within here kind =
    let at = stands_after N l within kind in
    let lane : Lane = schedule at.customer at.supplier in
    let first : Lane = despatch at.customer at.supplier in
    let mine : at.customer.0 ≡ plant = sym (ap (λ (z : Lane). z.sender.0) at.second) ∙ here in
    let received : comes_to N plant (l - 1) ≡ true = eq-eqb (lane_at N (l - 1)).receiver.0 plant (ap (λ (z : Lane). z.receiver.0) at.first ∙ mine) in
    let comes : Contains (incoming_lanes N plant) (incoming_lane N (l - 1)) =
    Contains-from_in (incoming_lanes N plant) (incoming_lane N (l - 1))
    (In-map (incoming_lane N) (filter (comes_to N plant) (lane_numbers N)) (l - 1)
    (In-filter (comes_to N plant) (lane_numbers N) (l - 1) (In-range 0 (length (lanes N)) (l - 1) (omega arith) (omega arith)) received)) in
    let as_first : incoming_lane N (l - 1) ≡ comes_in N (l - 1) first = ap (comes_in N (l - 1)) at.first in
    let before : comes_in N (l - 1) first ≡ lane_before (goes_out N l lane) =
    ap (λ (z : List IncomingItem). let i : IncomingLane = record { number = record { 0 = l - 1 }; kind = Despatch; items = z } in i)
    (sym (despatched_items N at.customer at.supplier is)) in
    subst (IsScheduleLane (plant_rows N plant)) (sym (ap (goes_out N l) at.second))
    (record {
      after = at.after;
      before = subst (Contains (incoming_lanes N plant)) (as_first ∙ before) comes;
      calls = All-map (HasCall (plant_rows N plant)) (outgoing_item N lane) (lane_items N lane) (calls_are N plant at.customer at.supplier is mine);
      customers_once = λ x. omega (
        arith,
        count-map (λ (i : OutgoingLoad). eqb (call_of i).customer.0 x) (outgoing_item N lane)
            (lane_items N lane),
        customers_once_of N lane x is,
      );
    })

pub schedules_are : (N : Table) (plant : ℕ) → IsTable N → All (λ lane. lane.kind ≡ Schedule → IsScheduleLane (plant_rows N plant) lane) (outgoing_lanes N plant)
schedules_are N plant is =
    All-map (λ (lane : OutgoingLane). lane.kind ≡ Schedule → IsScheduleLane (plant_rows N plant) lane) (outgoing_lane N)
    (filter (goes_from N plant) (lane_numbers N))
    (λ k d h kind. let own = owned (length (lanes N)) (λ l. (lane_at N l).sender.0) plant k d h in
    schedule_lane_is N plant (get_or (filter (goes_from N plant) (lane_numbers N)) k d) is own.0 own.1 kind)
