-- The view of one plant: the loops that make it. What is made of each of a list is pushed, in order.
use Rattle.std.proofs.Common.{◌≡◌, ℕ, ◌+◌, ◌<◌, ◌≤◌, List, [], ◌∷◌, ◌++◌, length, get_or, map, take, refl, sym, ap, subst}
use Rattle.std.proofs.Common.{◌∙◌}
use Rattle.std.specs.List.{Contains, flat_map}
use Rattle.std.proofs.lemmas.Grind.{flat_map-append}
use Rattle.std.proofs.lemmas.List.{append-nil, map-append, take_all, take_more}
use Rattle.std.proofs.lemmas.List.Elements.{Contains-get_or}
use Rattle.mrp_master_data.specs.Table.{Table, horizon}
use Rattle.mrp_net.specs.declared.lane.Lane.{Lane}
use Rattle.mrp_net.specs.Lanes.{lane_at, lane_items}
use Rattle.mrp_plant_view.specs.Loads.{OutgoingLoad}
use Rattle.mrp_plant_view.specs.declared.view.IncomingItem.{IncomingItem}
use Rattle.mrp_plant_view.specs.declared.view.IncomingLane.{IncomingLane}
use Rattle.mrp_plant_view.specs.declared.view.OutgoingLane.{OutgoingLane}
use Rattle.mrp_plant_view.specs.declared.view.PlantEdge.{PlantEdge}
use Rattle.mrp_plant_view.specs.declared.view.PlantPair.{PlantPair}
use Rattle.mrp_master_data.specs.declared.rows.FirmRow.{FirmRow}
use Rattle.mrp_master_data.specs.declared.rows.UsageRow.{UsageRow}
use Rattle.mrp_net.specs.FirmOrders.{firms_of}
use Rattle.mrp_net.specs.Sums.{row_of, demand, received_when_due, received_sooner}
use Rattle.mrp_net.specs.Usages.{usages_to}
use Rattle.mrp_plant_view.specs.View.{PlantRows, plant_pairs, plant_edges, plant_amounts, plant_firms, plant_sooner, plant_usages, edges_to, incoming_item}
use Rattle.mrp_plant_view.specs.View.{incoming_lane, incoming_lanes, outgoing_item, outgoing_lane, outgoing_lanes, plant_rows}

pub flat_pushed : {X Y : Type 0} (f : X → List Y) (xs : List X) (i : ℕ) (x : X) (now next : List Y) → i < length xs → x ≡ get_or xs i x
    → now ≡ flat_map f (take i xs) → next ≡ now ++ f x → next ≡ flat_map f (take (i + 1) xs)
flat_pushed {X} {Y} f xs i x now next lt read was new =
    new
    ∙ ap (λ (z : List Y). z ++ f x) was
    ∙ ap (λ (z : List Y). flat_map f (take i xs) ++ z) (sym (append-nil (f x)) ∙ ap (λ (z : X). flat_map f (z ∷ [])) read)
    ∙ sym (ap (flat_map f) (take_more xs i x lt) ∙ flat_map-append f (take i xs) (get_or xs i x ∷ []))

pub map_pushed : {X Y : Type 0} (f : X → Y) (xs : List X) (i : ℕ) (x : X) (now next : List Y) → i < length xs → x ≡ get_or xs i x
    → now ≡ map f (take i xs) → next ≡ now ++ f x ∷ [] → next ≡ map f (take (i + 1) xs)
map_pushed {X} {Y} f xs i x now next lt read was new =
    new
    ∙ ap (λ (z : List Y). z ++ f x ∷ []) was
    ∙ ap (λ (z : X). map f (take i xs) ++ f z ∷ []) read
    ∙ sym (ap (map f) (take_more xs i x lt) ∙ map-append f (take i xs) (get_or xs i x ∷ []))

-- and all of them
pub taken_all : {X Y : Type 0} (f : List X → List Y) (xs : List X) (i : ℕ) (now : List Y) → length xs ≤ i → now ≡ f (take i xs) → now ≡ f xs
taken_all f xs i now end was = was ∙ ap f (take_all i xs end)

-- an element of a list that equals another
pub at_index : {X : Type 0} (xs ys : List X) (i : ℕ) (d : X) → i < length ys → ys ≡ xs → Contains xs (get_or ys i d)
at_index {X} xs ys i d lt same = subst (λ (zs : List X). Contains zs (get_or ys i d)) same (Contains-get_or ys i d lt)

-- a lane of the view
pub is_incoming : (N : Table) (l : ℕ) (lane : Lane) (items : List IncomingItem) → lane ≡ lane_at N l
    → items ≡ map (incoming_item N (lane_at N l)) (lane_items N (lane_at N l))
    → ◌≡◌ {A = IncomingLane} (record { number = record { 0 = l }; kind = lane.kind; items = items }) (incoming_lane N l)
is_incoming N l lane items same its = rw (same, its) refl

pub is_outgoing : (N : Table) (l : ℕ) (lane : Lane) (items : List OutgoingLoad) → lane ≡ lane_at N l
    → items ≡ map (outgoing_item N (lane_at N l)) (lane_items N (lane_at N l))
    → ◌≡◌ {A = OutgoingLane} (record { number = record { 0 = l }; kind = lane.kind; items = items }) (outgoing_lane N l)
is_outgoing N l lane items same its = rw (same, its) refl

-- all parts of the view
abbrev rows : ℕ → List PlantPair → List PlantEdge → List ℕ → List ℕ → List (List FirmRow) → List (List ℕ) → List (List UsageRow) → List IncomingLane
    → List OutgoingLane → PlantRows
rows h pairs edges demands receipts firms sooner usages ins outs = record {
  horizon = h;
  pairs = pairs;
  edges = edges;
  demands = demands;
  receipts = receipts;
  firms = firms;
  sooner = sooner;
  usages = usages;
  incoming = ins;
  outgoing = outs;
}

pub rows_are : (N : Table) (plant h : ℕ) (pairs : List PlantPair) (edges : List PlantEdge) (demands receipts : List ℕ) (firms : List (List FirmRow))
    (sooner : List (List ℕ)) (usages : List (List UsageRow)) (ins : List IncomingLane) (outs : List OutgoingLane)
    → h ≡ horizon N → pairs ≡ plant_pairs N plant → edges ≡ flat_map (λ p. edges_to N p.number.0) pairs
    → demands ≡ flat_map (λ p. row_of N (demand N p.number.0)) pairs → receipts ≡ flat_map (λ p. row_of N (received_when_due N p.number.0)) pairs
    → firms ≡ map (λ p. firms_of N p.number.0) pairs → sooner ≡ map (λ p. received_sooner N p.number.0) pairs
    → usages ≡ map (λ p. usages_to N p.number.0) pairs → ins ≡ incoming_lanes N plant → outs ≡ outgoing_lanes N plant
    → rows h pairs edges demands receipts firms sooner usages ins outs ≡ plant_rows N plant
rows_are N plant h pairs edges demands receipts firms sooner usages ins outs is_h is_pairs is_edges is_demands is_receipts is_firms is_sooner is_usages is_ins
    is_outs =
    let all = plant_pairs N plant in
    let own_edges = plant_edges N plant in
    let own_demands = plant_amounts N (demand N) plant in
    let own_receipts = plant_amounts N (received_when_due N) plant in
    let own_firms = plant_firms N plant in
    let own_sooner = plant_sooner N plant in
    let own_usages = plant_usages N plant in
    let edges_are : edges ≡ own_edges = is_edges ∙ ap (flat_map (λ (p : PlantPair). edges_to N p.number.0)) is_pairs in
    let demands_are : demands ≡ own_demands = is_demands ∙ ap (flat_map (λ (p : PlantPair). row_of N (demand N p.number.0))) is_pairs in
    let receipts_are : receipts ≡ own_receipts = is_receipts ∙ ap (flat_map (λ (p : PlantPair). row_of N (received_when_due N p.number.0))) is_pairs in
    let firms_are : firms ≡ own_firms = is_firms ∙ ap (map (λ (p : PlantPair). firms_of N p.number.0)) is_pairs in
    let sooner_are : sooner ≡ own_sooner = is_sooner ∙ ap (map (λ (p : PlantPair). received_sooner N p.number.0)) is_pairs in
    let usages_are : usages ≡ own_usages = is_usages ∙ ap (map (λ (p : PlantPair). usages_to N p.number.0)) is_pairs in
    ap (λ (z : ℕ). rows z pairs edges demands receipts firms sooner usages ins outs) is_h
    ∙ ap (λ (z : List PlantPair). rows (horizon N) z edges demands receipts firms sooner usages ins outs) is_pairs
    ∙ ap (λ (z : List PlantEdge). rows (horizon N) all z demands receipts firms sooner usages ins outs) edges_are
    ∙ ap (λ (z : List ℕ). rows (horizon N) all own_edges z receipts firms sooner usages ins outs) demands_are
    ∙ ap (λ (z : List ℕ). rows (horizon N) all own_edges own_demands z firms sooner usages ins outs) receipts_are
    ∙ ap (λ (z : List (List FirmRow)). rows (horizon N) all own_edges own_demands own_receipts z sooner usages ins outs) firms_are
    ∙ ap (λ (z : List (List ℕ)). rows (horizon N) all own_edges own_demands own_receipts own_firms z usages ins outs) sooner_are
    ∙ ap (λ (z : List (List UsageRow)). rows (horizon N) all own_edges own_demands own_receipts own_firms own_sooner z ins outs) usages_are
    ∙ ap (λ (z : List IncomingLane). rows (horizon N) all own_edges own_demands own_receipts own_firms own_sooner own_usages z outs) is_ins
    ∙ ap (λ (z : List OutgoingLane). rows (horizon N) all own_edges own_demands own_receipts own_firms own_sooner own_usages (incoming_lanes N plant) z) is_outs
