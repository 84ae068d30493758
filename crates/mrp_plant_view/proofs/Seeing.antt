-- The view of one plant: the pairs and edges in it, for an accepted table.
use Rattle.std.proofs.Common.{◌≡◌, ℕ, zero, suc, ◌+◌, ◌*◌, ◌<◌, ◌≤◌, ◌==◌, Bool, true, eqb, List, [], ◌∷◌, length, get_or, refl, sym, ap, ◌∙◌, arith}
use Rattle.std.specs.List.{All, Contains, filter, flat_map, range_with_len}
use Rattle.std.proofs.lemmas.Bool.{eq-eqb, eqb-true}
use Rattle.std.proofs.lemmas.List.{length-append, length-map}
use Rattle.std.proofs.lemmas.List.FromFn.{length-map-range_with_len}
use Rattle.std.proofs.lemmas.List.Elements.{All-nil, All-head, All-tail, All-append, All-filter, All-map, filter_passes, Contains-get_or}
use Rattle.std.proofs.lemmas.List.Sums.{length-filter, count_by-le-length}
use Rattle.std.proofs.Math.Nat.{suc-mul}
use Rattle.mrp_master_data.specs.declared.numbers.ItemNo.{ItemNo}
use Rattle.mrp_master_data.specs.declared.numbers.PairNo.{PairNo}
use Rattle.mrp_master_data.specs.Table.{Table, IsTable, IsPair, horizon, pair_no}
use Rattle.mrp_net.specs.declared.edge.Edge.{Edge}
use Rattle.mrp_plant_view.specs.declared.view.PlantPair.{PlantPair}
use Rattle.mrp_net.specs.Edges.{demanders, edges}
use Rattle.mrp_net.specs.Suppliers.{IsEdge}
use Rattle.mrp_net.specs.EdgeLaws.{is_local}
use Rattle.mrp_plant_view.specs.Seen.{IsOwnPair, IsOwnOf, IsPlantPair, IsPlantEdge, pairs_of_number, pairs_of_item}
use Rattle.mrp_net.specs.Sums.{pair_at, no_pair, row_of}
use Rattle.mrp_plant_view.specs.View.{is_of_plant, plant_pair, plant_pairs, plant_edge, edges_to, plant_edges, plant_amounts, plant_rows}
use Rattle.mrp_net.proofs.Joining.{edges_join, demanders_join}
use Rattle.mrp_net.proofs.Members.{In, In-from_contains, Contains-from_in, In-filter, In-map, In-range, range_only}
use Rattle.mrp_plant_view.proofs.Once.{count-map, count-filter, count_range, count_within}
use Rattle.mrp_net.proofs.Sharing.{pairs_are_found}
use Rattle.mrp_grouping.proofs.Sorting.{All-sorted_by}
use Rattle.mrp_master_data.proofs.LimitFacts.{lead_of_pair, rule_of_pair}

-- ---- pairs

pub below : (n : ℕ) → All (λ x. x < n) (range_with_len 0 n)
below n = λ k d h. let within = range_only 0 n (get_or (range_with_len 0 n) k d)
    (In-from_contains (range_with_len 0 n) (get_or (range_with_len 0 n) k d) (Contains-get_or (range_with_len 0 n) k d h)) in omega (arith, within.1)

-- of the numbers below a bound those that a plant owns: each is below it and owned by the plant
pub owned : (n : ℕ) (owner : ℕ → ℕ) (plant : ℕ) → All (λ x. (x < n) × (owner x ≡ plant)) (filter (λ x. owner x == plant) (range_with_len 0 n))
owned n owner plant = λ k d h.
    let own : ℕ → Bool = λ x. owner x == plant in
    let x : ℕ = get_or (filter own (range_with_len 0 n)) k d in (
      All-filter own (λ (y : ℕ). y < n) (range_with_len 0 n) (below n) k d h,
      eqb-true (owner x) plant (filter_passes own (range_with_len 0 n) k d h),
    )

-- and each such number is there
pub owned_there : (n : ℕ) (owner : ℕ → ℕ) (plant x : ℕ) → x < n → owner x ≡ plant → In (filter (λ y. owner y == plant) (range_with_len 0 n)) x
owned_there n owner plant x within is =
    In-filter (λ (y : ℕ). owner y == plant) (range_with_len 0 n) x (In-range 0 n x (omega arith) (omega (arith, within))) (eq-eqb (owner x) plant is)

-- the numbers of the plant's pairs
abbrev own : Table → ℕ → List ℕ
own N plant = filter (is_of_plant N plant) (range_with_len 0 (length N.pairs))

own_are_pairs : (N : Table) (plant : ℕ) → All (IsPair N) (own N plant)
own_are_pairs N plant = λ k d h. (owned (length N.pairs) (λ x. (pair_at N x).plant.0) plant k d h).0

pub own_are_of_plant : (N : Table) (plant : ℕ) → All (λ x. (pair_at N x).plant.0 ≡ plant) (own N plant)
own_are_of_plant N plant = λ k d h. (owned (length N.pairs) (λ x. (pair_at N x).plant.0) plant k d h).1

pub pairs_are_pairs : (N : Table) (plant : ℕ) → All (λ p. IsPair N p.number.0) (plant_pairs N plant)
pairs_are_pairs N plant = All-map (λ (p : PlantPair). IsPair N p.number.0) (plant_pair N) (own N plant) (own_are_pairs N plant)

range_length : (a n : ℕ) → length (range_with_len a n) ≡ n
range_length a zero = refl
range_length a (suc n) = omega (arith, range_length (a + 1) n)

pub pairs_are_few : (N : Table) (plant : ℕ) → length (plant_pairs N plant) ≤ length N.pairs
pairs_are_few N plant =
    omega (
      arith,
      length-map (own N plant) (plant_pair N),
      length-filter (is_of_plant N plant) (range_with_len 0 (length N.pairs)),
      count_by-le-length
          (is_of_plant N plant) (range_with_len 0 (length N.pairs)),
      range_length 0 (length N.pairs),
    )

pub numbers_stand_once : (N : Table) (plant x : ℕ) → pairs_of_number x (plant_pairs N plant) ≤ 1
numbers_stand_once N plant x =
    omega (
      arith,
      count-map (λ (p : PlantPair). eqb p.number.0 x) (plant_pair N) (own N plant),
      count-filter (λ y. eqb y x) (is_of_plant N plant)
          (range_with_len 0 (length N.pairs)),
      count_range 0 (length N.pairs) x,
    )

pub items_stand_once : (N : Table) (plant item : ℕ) → IsTable N → pairs_of_item item (plant_pairs N plant) ≤ 1
items_stand_once N plant item is =
    let x : ℕ = pair_no N plant item in
    let found : All (λ y. eqb (pair_at N y).item.0 item ≡ true → eqb y x ≡ true) (own N plant) = λ k d h t.
    let y : ℕ = get_or (own N plant) k d in
    eq-eqb y x
    (sym (pairs_are_found N is y (own_are_pairs N plant k d h))
    ∙ ap (λ (z : ℕ). pair_no N z (pair_at N y).item.0) (own_are_of_plant N plant k d h)
    ∙ ap (pair_no N plant) (eqb-true (pair_at N y).item.0 item t)) in
    omega (
      arith,
      count-map (λ (p : PlantPair). eqb p.item.0 item) (plant_pair N) (own N plant),
      count_within (λ y. eqb (pair_at N y).item.0 item)
          (λ y. eqb y x) (own N plant) found,
      count-filter (λ y. eqb y x) (is_of_plant N plant) (range_with_len 0 (length N.pairs)),
      count_range 0
          (length N.pairs) x,
    )

pub pairs_are_planned : (N : Table) (plant : ℕ) → IsTable N → All IsPlantPair (plant_pairs N plant)
pairs_are_planned N plant is =
    All-map IsPlantPair (plant_pair N) (own N plant)
    (λ k d h. let row = is.read.pairs (get_or (own N plant) k d) no_pair (own_are_pairs N plant k d h) in
    record { rule = rule_of_pair N _ row; lead = lead_of_pair N _ row; on_hand = row.on_hand; safety = row.safety })

-- a pair of the table at the plant is one of the plant's
own_pair : (N : Table) (plant x : ℕ) → IsPair N x → (pair_at N x).plant.0 ≡ plant → Contains (plant_pairs N plant) (plant_pair N x)
own_pair N plant x pair e =
    Contains-from_in (plant_pairs N plant) (plant_pair N x)
    (In-map (plant_pair N) (own N plant) x (owned_there (length N.pairs) (λ y. (pair_at N y).plant.0) plant x pair e))

pub is_own : (N : Table) (plant : ℕ) (x : PairNo) → IsPair N x.0 → (pair_at N x.0).plant.0 ≡ plant → IsOwnPair (plant_rows N plant) x
is_own N plant x pair e = (plant_pair N x.0, own_pair N plant x.0 pair e, refl)

pub is_own_of : (N : Table) (plant : ℕ) (x : PairNo) (item : ItemNo) → IsPair N x.0 → (pair_at N x.0).plant.0 ≡ plant → (pair_at N x.0).item ≡ item
    → IsOwnOf (plant_rows N plant) x item
is_own_of N plant x item pair e f = (plant_pair N x.0, own_pair N plant x.0 pair e, refl, f)

-- ---- edges

pub All-flat_map : {X Y : Type 0} (P : Y → Type 0) (f : X → List Y) (xs : List X) → All (λ x. All P (f x)) xs → All P (flat_map f xs)
All-flat_map P f [] h = All-nil P
All-flat_map P f (x ∷ xs) h =
    All-append P (f x) (flat_map f xs) (All-head (λ x. All P (f x)) x xs h) (All-flat_map P f xs (All-tail (λ x. All P (f x)) x xs h))

pub demanders_take : (N : Table) (x : ℕ) → All (λ e. e.pair.0 ≡ x) (demanders N x)
demanders_take N x =
    All-sorted_by (λ (e : Edge). e.pair.0 ≡ x) (λ e. e.demander.0) (length N.pairs) (filter (λ e. eqb e.pair.0 x) (edges N))
    (λ k d h. eqb-true (get_or (filter (λ (e : Edge). eqb e.pair.0 x) (edges N)) k d).pair.0 x (filter_passes (λ e. eqb e.pair.0 x) (edges N) k d h))

edges_to_join : (N : Table) (plant x : ℕ) → IsTable N → (pair_at N x).plant.0 ≡ plant → All (IsPlantEdge (plant_rows N plant)) (edges_to N x)
edges_to_join N plant x is of_plant =
    let local : List Edge = filter (is_local N) (demanders N x) in
    All-map (IsPlantEdge (plant_rows N plant)) plant_edge local
    (λ k d h.
    let e : Edge = get_or local k d in
    let joins : IsEdge N e = All-filter (is_local N) (IsEdge N) (demanders N x) (demanders_join N x (edges_join N is)) k d h in
    let takes : e.pair.0 ≡ x = All-filter (is_local N) (λ e. e.pair.0 ≡ x) (demanders N x) (demanders_take N x) k d h in
    let same : (pair_at N e.demander.0).plant.0 ≡ (pair_at N e.pair.0).plant.0 =
    eqb-true (pair_at N e.demander.0).plant.0 (pair_at N e.pair.0).plant.0 (filter_passes (is_local N) (demanders N x) k d h) in
    let here : (pair_at N e.pair.0).plant.0 ≡ plant = ap (λ (z : ℕ). (pair_at N z).plant.0) takes ∙ of_plant in
    record {
      parent = is_own N plant e.demander joins.demander (same ∙ here);
      component = is_own N plant e.pair joins.pair here;
      some = joins.some;
      few = joins.few;
    })

pub edges_are_own : (N : Table) (plant : ℕ) → IsTable N → All (IsPlantEdge (plant_rows N plant)) (plant_edges N plant)
edges_are_own N plant is =
    let P = IsPlantEdge (plant_rows N plant) in
    All-flat_map P (λ (p : PlantPair). edges_to N p.number.0) (plant_pairs N plant)
    (All-map (λ (p : PlantPair). All P (edges_to N p.number.0)) (plant_pair N) (own N plant)
    (λ k d h. edges_to_join N plant (get_or (own N plant) k d) is (own_are_of_plant N plant k d h)))

-- ---- amounts

rows_length : (N : Table) (amount : ℕ → ℕ → ℕ) (pairs : List PlantPair) → length (flat_map (λ p. row_of N (amount p.number.0)) pairs) ≡ length pairs * horizon N
rows_length N amount [] = omega arith
rows_length N amount (p ∷ pairs) =
    let rest : List ℕ = flat_map (λ p. row_of N (amount p.number.0)) pairs in
    omega (
      arith,
      length-append (row_of N (amount p.number.0)) rest,
      length-map-range_with_len (amount p.number.0) 0
          (horizon N),
      rows_length N amount pairs,
      suc-mul (length pairs) (horizon N),
    )

pub amounts_length : (N : Table) (amount : ℕ → ℕ → ℕ) (plant : ℕ) → length (plant_amounts N amount plant) ≡ length (plant_pairs N plant) * horizon N
amounts_length N amount plant = rows_length N amount (plant_pairs N plant)
