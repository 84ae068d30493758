-- The protocol: what a plant sees in one of its states, which is amounts, parents, and what has come over its lanes.
use Rattle.std.proofs.Common.{◌≡◌, ℕ, suc, zero, ◌+◌, ◌*◌, ◌<◌, ◌==◌, Bool, true, inl, inr, List, [], ◌∷◌, length, get_or, map, refl, sym, ap, ◌∙◌, subst}
use Rattle.std.proofs.Common.{arith, All, Contains, slice_index, slice_index_or}
use Rattle.std.specs.List.{filter, flat_map, position_or_len, range_with_len}
use Rattle.std.proofs.lemmas.Bool.{cases_lt, eqb-true, eq-eqb, both_ways}
use Rattle.std.proofs.lemmas.List.{get_or_append_left, get_or-append-add, get_or-map, map-id}
use Rattle.std.proofs.lemmas.List.Elements.{All-contains, All-map, Contains-get_or}
use Rattle.std.proofs.lemmas.List.FromFn.{get_or-map-range_with_len, length-map-range_with_len}
use Rattle.std.proofs.lemmas.List.Sums.{passes_at_first, fails_before_first}
use Rattle.std.proofs.Math.Nat.{suc-mul}
use Rattle.mrp_master_data.specs.declared.numbers.ItemNo.{ItemNo}
use Rattle.mrp_master_data.specs.declared.numbers.PairNo.{PairNo}
use Rattle.mrp_master_data.specs.Table.{Table, IsTable, horizon}
use Rattle.mrp_net.specs.declared.edge.Edge.{Edge}
use Rattle.mrp_net.specs.declared.lane.Lane.{Lane}
use Rattle.mrp_net.specs.Edges.{demanders}
use Rattle.mrp_net.specs.Lanes.{lanes, lane_at, lane_items}
use Rattle.mrp_net.specs.EdgeLaws.{is_local}
use Rattle.mrp_net.specs.Sums.{pair_at, params_at, terms_at, row_of, received_sooner}
use Rattle.mrp_net.specs.FirmOrders.{firms_of}
use Rattle.mrp_net.specs.Policies.{policy_of}
use Rattle.mrp_net.specs.Terms.{terms_of}
use Rattle.mrp_net.specs.Usages.{usages_to}
use Rattle.mrp_master_data.specs.declared.rows.FirmRow.{FirmRow}
use Rattle.mrp_net.proofs.Members.{In, In-from_contains, Contains-from_in, In-filter, filter_only, In-map, map_only, In-flat_map, flat_map_only, In-range}
use Rattle.mrp_net.proofs.Members.{All-in}
use Rattle.mrp_net.proofs.Routing.{map-map}
use Rattle.mrp_plant_view.specs.declared.view.IncomingItem.{IncomingItem}
use Rattle.mrp_plant_view.specs.declared.view.PlantEdge.{PlantEdge}
use Rattle.mrp_plant_view.specs.declared.view.PlantPair.{PlantPair}
use Rattle.mrp_plant_view.specs.View.{PlantRows, is_of_plant, plant_pair, plant_pairs, plant_edge, plant_edges, edges_to, plant_amounts, plant_rows, comes_to}
use Rattle.mrp_plant_view.specs.View.{lane_numbers, incoming_item, incoming_lane, incoming_lanes}
use Rattle.mrp_plant_view.specs.Seen.{IsOwnPair}
use Rattle.mrp_plant_view.proofs.Seeing.{owned, owned_there}
use Rattle.mrp_loops.specs.Loop.{HasEdge}
use Rattle.mrp_loops.proofs.Edges.{demanders_edge, demanders_only, HasEdge-from_in}
use Rattle.mrp_record.specs.declared.record.Record.{Record}
use Rattle.mrp_protocol.specs.State as state
use Rattle.mrp_protocol.specs.State.{IsReady}
use Rattle.mrp_protocol.specs.LocalPlans.{amount_at, place_in, firms_in, sooner_in, usages_in, terms_in, HasCome, AwaitsNothing}
use Rattle.mrp_protocol.specs.LocalLaws.{IsPairAt}

-- ---- amounts

pub sees_pair : (N : Table) (plant x : ℕ) → IsPairAt N plant x → In (plant_pairs N plant) (plant_pair N x)
sees_pair N plant x at =
    In-map (plant_pair N) (filter (is_of_plant N plant) (range_with_len 0 (length N.pairs))) x
    (owned_there (length N.pairs) (λ y. (pair_at N y).plant.0) plant x at.pair at.at_plant)

pub pairs_are_at : (N : Table) (plant : ℕ) → All (λ q. IsPairAt N plant q.number.0) (plant_pairs N plant)
pairs_are_at N plant =
    All-map (λ (q : PlantPair). IsPairAt N plant q.number.0) (plant_pair N) (filter (is_of_plant N plant) (range_with_len 0 (length N.pairs)))
    (λ k d within. let own = owned (length N.pairs) (λ y. (pair_at N y).plant.0) plant k d within in record { pair = own.0; at_plant = own.1 })

-- the pairs that a view has are those of its plant
pub own_at : (V : PlantRows) (N : Table) (plant : ℕ) (x : PairNo) → V ≡ plant_rows N plant → IsOwnPair V x → IsPairAt N plant x.0
own_at V N plant x view (q, there, is) =
    let all : All (λ z. IsPairAt N plant z.number.0) V.pairs = subst (λ (z : PlantRows). All (λ q. IsPairAt N plant q.number.0) z.pairs) (sym view)
    (pairs_are_at N plant) in
    subst (λ (n : PairNo). IsPairAt N plant n.0) is (All-contains (λ (z : PlantPair). IsPairAt N plant z.number.0) V.pairs q all there)

pub seen_there : (V : PlantRows) (N : Table) (plant x : ℕ) → V ≡ plant_rows N plant → IsPairAt N plant x → Contains V.pairs (plant_pair N x)
seen_there V N plant x view at =
    subst (λ (z : PlantRows). Contains z.pairs (plant_pair N x)) (sym view) (Contains-from_in (plant_pairs N plant) (plant_pair N x) (sees_pair N plant x at))

-- the amounts of one piece after the other, all of one length
piece_at : {X : Type 0} (f : X → List ℕ) (size : ℕ) (xs : List X) → ((x : X) → length (f x) ≡ size) → (k t : ℕ) (d : X) → k < length xs → t < size
    → slice_index (flat_map f xs) (k * size + t) ≡ slice_index (f (get_or xs k d)) t
piece_at f size [] sizes k t d there within = absurd (omega arith)
piece_at f size (x ∷ xs) sizes zero t d there within =
    let first : 0 * size + t ≡ t = omega arith in
    ap (λ (i : ℕ). slice_index (flat_map f (x ∷ xs)) i) first ∙ get_or_append_left (f x) (flat_map f xs) 0 t (omega (arith, sizes x))
piece_at f size (x ∷ xs) sizes (suc k) t d there within =
    let later : suc k * size + t ≡ length (f x) + (k * size + t) = omega (arith, suc-mul k size, sizes x) in
    ap (λ (i : ℕ). slice_index (flat_map f (x ∷ xs)) i) later
    ∙ get_or-append-add (f x) (flat_map f xs) (k * size + t) 0
    ∙ piece_at f size xs sizes k t d (omega arith) within

-- the first of a list that passes is there where some element passes
first_there : {X : Type 0} (p : X → Bool) (xs : List X) (x : X) → Contains xs x → p x ≡ true → position_or_len p xs < length xs
first_there p xs x h t =
    elim (cases_lt (position_or_len p xs) (length xs)) as (λ _. position_or_len p xs < length xs) [
      | inl below ↦ below
      | inr past ↦ absurd (both_ways (p (get_or xs h.0 x)) (fails_before_first p xs h.0 x (omega (arith, h.1))) (ap p h.2 ∙ t))
    ]

-- at the place of a pair stands the pair
place_is : (N : Table) (plant x : ℕ) (d : PlantPair) → IsPairAt N plant x
    → (place_in (plant_rows N plant) (record { 0 = x }) < length (plant_pairs N plant))
    × ((get_or (plant_pairs N plant) (place_in (plant_rows N plant) (record { 0 = x })) d).number.0 ≡ x)
place_is N plant x d at =
    let pairs : List PlantPair = plant_pairs N plant in
    let test = λ (p : PlantPair). p.number.0 == x in
    let there : position_or_len test pairs < length pairs =
    first_there test pairs (plant_pair N x) (Contains-from_in pairs (plant_pair N x) (sees_pair N plant x at)) (eq-eqb x x refl) in
    (there, eqb-true (get_or pairs (position_or_len test pairs) d).number.0 x (passes_at_first test pairs d there))

pub amount_is : (N : Table) (plant x : ℕ) (amount : ℕ → ℕ → ℕ) (t : ℕ) → IsPairAt N plant x → t < horizon N
    → amount_at (plant_rows N plant) (plant_amounts N amount plant) (record { 0 = x }) t ≡ amount x t
amount_is N plant x amount t at within =
    let pairs : List PlantPair = plant_pairs N plant in
    let d : PlantPair = plant_pair N x in
    let k : ℕ = place_in (plant_rows N plant) (record { 0 = x }) in
    let place = place_is N plant x d at in
    piece_at (λ (p : PlantPair). row_of N (amount p.number.0)) (horizon N) pairs
    (λ p. length-map-range_with_len (amount p.number.0) 0 (horizon N)) k t d place.0 within
    ∙ get_or-map-range_with_len (amount (get_or pairs k d).number.0) 0 (horizon N) t t 0 within (omega arith)
    ∙ ap (λ (z : ℕ). amount z t) place.1

-- a list of each pair
list_is : {X : Type 0} (N : Table) (plant x : ℕ) (list : ℕ → List X) → IsPairAt N plant x
    → slice_index_or (map (λ p. list p.number.0) (plant_pairs N plant)) (place_in (plant_rows N plant) (record { 0 = x })) [] ≡ list x
list_is N plant x list at =
    let d : PlantPair = plant_pair N x in
    let place = place_is N plant x d at in
    get_or-map (λ (p : PlantPair). list p.number.0) (plant_pairs N plant) (place_in (plant_rows N plant) (record { 0 = x })) d [] place.0 ∙ ap list place.1

-- the firm planned orders of a pair are those of the table, and so are its receipts that may be counted sooner
firms_are : (N : Table) (plant x : ℕ) → IsPairAt N plant x → firms_in (plant_rows N plant) (record { 0 = x }) ≡ firms_of N x
firms_are N plant x at = list_is N plant x (firms_of N) at

sooner_are : (N : Table) (plant x : ℕ) → IsPairAt N plant x → sooner_in (plant_rows N plant) (record { 0 = x }) ≡ received_sooner N x
sooner_are N plant x at = list_is N plant x (received_sooner N) at

-- and its usage rows
pub usages_are : (N : Table) (plant x : ℕ) → IsPairAt N plant x → usages_in (plant_rows N plant) (record { 0 = x }) ≡ usages_to N x
usages_are N plant x at = list_is N plant x (usages_to N) at

-- so planners say of it what the table does
pub terms_are : (N : Table) (plant x : ℕ) → IsPairAt N plant x → terms_in (plant_rows N plant) (plant_pair N x) ≡ terms_at N x
terms_are N plant x at =
    ap (λ (receipts : List ℕ). terms_of (horizon N) (params_at N x) (policy_of N x) receipts (firms_in (plant_rows N plant) (record { 0 = x })))
    (sooner_are N plant x at)
    ∙ ap (λ (orders : List FirmRow). terms_of (horizon N) (params_at N x) (policy_of N x) (received_sooner N x) orders) (firms_are N plant x at)

-- ---- parents

-- an edge of the network within the plant is one that the plant sees
sees_edge : (N : Table) → IsTable N → (plant x y : ℕ) → IsPairAt N plant x → HasEdge N y x → (pair_at N y).plant.0 ≡ plant
    → (e : PlantEdge) × In (plant_edges N plant) e × (e.component.0 ≡ x) × (e.parent.0 ≡ y)
sees_edge N is plant x y at edge here =
    let among = demanders_edge N is y x edge in
    let e : Edge = among.0 in
    let only = demanders_only N x e among.1 in
    let demander : (pair_at N e.demander.0).plant.0 ≡ plant = ap (λ (z : ℕ). (pair_at N z).plant.0) among.2 ∙ here in
    let component : (pair_at N e.pair.0).plant.0 ≡ plant = ap (λ (z : ℕ). (pair_at N z).plant.0) only.1 ∙ at.at_plant in
    let local : is_local N e ≡ true = eq-eqb (pair_at N e.demander.0).plant.0 (pair_at N e.pair.0).plant.0 (demander ∙ sym component) in
    let own : In (edges_to N x) (plant_edge e) = In-map plant_edge (filter (is_local N) (demanders N x)) e
    (In-filter (is_local N) (demanders N x) e among.1 local) in (
      plant_edge e,
      In-flat_map (λ (p : PlantPair). edges_to N p.number.0) (plant_pairs N plant) (plant_pair N x) (plant_edge e) (sees_pair N plant x at) own,
      only.1,
      among.2,
    )

-- and each edge that it sees is one of the network within the plant
pub seen_edges : (N : Table) (plant : ℕ) → All (λ e. HasEdge N e.parent.0 e.component.0 × ((pair_at N e.parent.0).plant.0 ≡ (pair_at N e.component.0).plant.0))
    (plant_edges N plant)
seen_edges N plant k d h =
    let e : PlantEdge = get_or (plant_edges N plant) k d in
    let of = flat_map_only (λ (p : PlantPair). edges_to N p.number.0) (plant_pairs N plant) e
    (In-from_contains (plant_edges N plant) e (Contains-get_or (plant_edges N plant) k d h)) in
    let x : ℕ = of.0.number.0 in
    let shown = map_only plant_edge (filter (is_local N) (demanders N x)) e of.2 in
    let f : Edge = shown.0 in
    let kept = filter_only (is_local N) (demanders N x) f shown.1 in
    let only = demanders_only N x f kept.0 in
    let P : PlantEdge → Type 0 = λ w. HasEdge N w.parent.0 w.component.0 × ((pair_at N w.parent.0).plant.0 ≡ (pair_at N w.component.0).plant.0) in
    subst P shown.2 (HasEdge-from_in N f f.demander.0 f.pair.0 only.0 refl refl, eqb-true (pair_at N f.demander.0).plant.0 (pair_at N f.pair.0).plant.0 kept.1)

-- ---- lanes

items_are : (N : Table) (lane : Lane) → map (λ i. i.item) (map (incoming_item N lane) (lane_items N lane)) ≡ lane_items N lane
items_are N lane = map-map (λ (i : IncomingItem). i.item) (incoming_item N lane) (lane_items N lane) ∙ map-id (lane_items N lane)

sees_lane : (N : Table) (plant l : ℕ) → l < length (lanes N) → (lane_at N l).receiver.0 ≡ plant → In (incoming_lanes N plant) (incoming_lane N l)
sees_lane N plant l within here =
    In-map (incoming_lane N) (filter (comes_to N plant) (lane_numbers N)) l
    (In-filter (comes_to N plant) (lane_numbers N) l (In-range 0 (length (lanes N)) l (omega arith) (omega arith)) (eq-eqb (lane_at N l).receiver.0 plant here))

-- each lane has brought what it has of an item: by all lanes of the network, and by those that the plant sees
brought_over_lanes : (N : Table) (plant : ℕ) (taken : ℕ → List Record) (item : ItemNo) → All (HasCome taken item) (incoming_lanes N plant)
    → (l : ℕ) → l < length (lanes N) → state.HasBrought N taken plant item l
brought_over_lanes N plant taken item all l within here there =
    All-in (HasCome taken item) (incoming_lanes N plant) (incoming_lane N l) all (sees_lane N plant l within here)
    (subst (λ (items : List ItemNo). Contains items item) (sym (items_are N (lane_at N l))) there)

brought_on_view : (N : Table) (plant : ℕ) (taken : ℕ → List Record) (item : ItemNo) → ((l : ℕ) → l < length (lanes N) → state.HasBrought N taken plant item l)
    → All (HasCome taken item) (incoming_lanes N plant)
brought_on_view N plant taken item each =
    let numbers : List ℕ = filter (comes_to N plant) (lane_numbers N) in
    All-map (HasCome taken item) (incoming_lane N) numbers
    (λ k d h carries.
    let own = owned (length (lanes N)) (λ l. (lane_at N l).receiver.0) plant k d h in
    each (get_or numbers k d) own.0 own.1 (subst (λ (items : List ItemNo). Contains items item) (items_are N (lane_at N (get_or numbers k d))) carries))

-- ---- readiness

-- nothing is missing for a pair where it is ready by the rules of the network
pub ready_over_network : (N : Table) → IsTable N → (plant : ℕ) (planned : ℕ → Bool) (taken : ℕ → List Record) (x : ℕ) → IsPairAt N plant x
    → AwaitsNothing (plant_rows N plant) taken planned (plant_pair N x) → IsReady N planned taken x
ready_over_network N is plant planned taken x at ready = record {
  demanders = λ y edge same.
      let seen = sees_edge N is plant x y at edge (same ∙ at.at_plant) in
      let done = All-in (λ e. e.component.0 ≡ x → planned e.parent.0 ≡ true) (plant_edges N plant) seen.0 ready.parents seen.1 seen.2 in
      subst (λ (z : ℕ). planned z ≡ true) seen.3 done;
  brought = λ l within here. brought_over_lanes N plant taken (pair_at N x).item ready.brought l within (here ∙ at.at_plant);
}

pub ready_on_view : (N : Table) (plant : ℕ) (planned : ℕ → Bool) (taken : ℕ → List Record) (x : ℕ) → IsPairAt N plant x
    → IsReady N planned taken x → AwaitsNothing (plant_rows N plant) taken planned (plant_pair N x)
ready_on_view N plant planned taken x at ready = record {
  parents = λ k d h mine.
      let e : PlantEdge = get_or (plant_edges N plant) k d in
      let seen = seen_edges N plant k d h in
      ready.demanders e.parent.0 (subst (λ (z : ℕ). HasEdge N e.parent.0 z) mine seen.0) (seen.1 ∙ ap (λ (z : ℕ). (pair_at N z).plant.0) mine);
  brought = brought_on_view N plant taken (pair_at N x).item (λ l within here. ready.brought l within (here ∙ sym at.at_plant));
}
