-- The view of one plant: the plant's pairs and lanes as the network lists them, and as the view has them.
use Rattle.std.proofs.Common.{◌≡◌, ◌==◌, ℕ, ◌+◌, ◌<◌, ◌≤◌, Bool, inl, inr, List, [], ◌∷◌, ◌++◌, length, map, get_or, take, refl, sym, ap, ◌∙◌}
use Rattle.std.specs.List.{filter, range_with_len}
use Rattle.std.proofs.lemmas.Bool.{cases_Bool}
use Rattle.std.proofs.lemmas.List.{map-append, take_all, take_more}
use Rattle.mrp_grouping.proofs.Sorting.{filter-yes, filter-no}
use Rattle.mrp_master_data.specs.declared.numbers.PairNo.{PairNo}
use Rattle.mrp_master_data.specs.Rows.{params_of}
use Rattle.mrp_master_data.specs.Table.{Table}
use Rattle.mrp_net.specs.declared.lane.LaneNo.{LaneNo}
use Rattle.mrp_net.specs.Lanes.{lanes}
use Rattle.mrp_master_data.specs.declared.rows.PairRow.{PairRow}
use Rattle.mrp_netting.specs.declared.params.PairParams.{PairParams}
use Rattle.mrp_netting.specs.declared.planning_data.Policy.{Policy}
use Rattle.mrp_net.specs.Policies.{policy_of}
use Rattle.mrp_net.specs.Sums.{pair_at}
use Rattle.mrp_net.specs.Plants.{plant_of, receiver_of, sender_of, pairs_of, lanes_to, lanes_from}
use Rattle.mrp_plant_view.specs.declared.view.IncomingLane.{IncomingLane}
use Rattle.mrp_plant_view.specs.declared.view.OutgoingLane.{OutgoingLane}
use Rattle.mrp_plant_view.specs.declared.view.PlantPair.{PlantPair}
use Rattle.mrp_plant_view.specs.View.{plant_pair, plant_pairs, incoming_lane, incoming_lanes, outgoing_lane, outgoing_lanes}

-- what is made of the numbers that pass a test
filter_made : {A Y : Type 0} (f : A → Y) (mk : ℕ → A) (p : A → Bool) (xs : List ℕ)
    → map f (filter p (map mk xs)) ≡ map (λ x. f (mk x)) (filter (λ x. p (mk x)) xs)
filter_made f mk p [] = refl
filter_made {A} {Y} f mk p (x ∷ xs) = elim (cases_Bool (p (mk x))) [
  | inl passes ↦
      ap (map f) (filter-yes p (mk x) (map mk xs) passes) ∙ ap (λ (ys : List Y). f (mk x) ∷ ys) (filter_made f mk p xs)
      ∙ sym (ap (map (λ (z : ℕ). f (mk z))) (filter-yes (λ z. p (mk z)) x xs passes))
  | inr fails ↦
      ap (map f) (filter-no p (mk x) (map mk xs) fails) ∙ filter_made f mk p xs
      ∙ sym (ap (map (λ (z : ℕ). f (mk z))) (filter-no (λ z. p (mk z)) x xs fails))
]

-- one more of a list, and all of it
pub made_pushed : {X Y : Type 0} (f : X → Y) (xs : List X) (i : ℕ) (d : X) (now next : List Y) → i < length xs
    → now ≡ map f (take i xs) → next ≡ now ++ f (get_or xs i d) ∷ [] → next ≡ map f (take (i + 1) xs)
made_pushed {X} {Y} f xs i d now next below was new =
    new ∙ ap (λ (ys : List Y). ys ++ f (get_or xs i d) ∷ []) was
    ∙ sym (ap (map f) (take_more xs i d below) ∙ map-append f (take i xs) (get_or xs i d ∷ []))

pub made_all : {X Y : Type 0} (f : X → Y) (xs : List X) (i : ℕ) (now : List Y) → length xs ≤ i → now ≡ map f (take i xs) → now ≡ map f xs
made_all f xs i now end was = was ∙ ap (map f) (take_all i xs end)

-- a pair of the view
pub is_plant_pair : (N : Table) (x : PairNo) (row : PairRow) (params : PairParams) (policy : Policy) → row ≡ pair_at N x.0 → params ≡ params_of row
    → policy ≡ policy_of N x.0
    → ◌≡◌ {A = PlantPair} (record { number = x; item = row.item; params = params; policy = policy }) (plant_pair N x.0)
is_plant_pair N x row params policy r p q = rw (p, q, r) refl

-- the plant's own, of all
pub pairs_are_own : (N : Table) (plant : ℕ) (numbers : List PairNo) (pairs : List PlantPair) → numbers ≡ pairs_of N plant
    → pairs ≡ map (λ x. plant_pair N x.0) numbers → pairs ≡ plant_pairs N plant
pairs_are_own N plant numbers pairs own made =
    made ∙ ap (map (λ (x : PairNo). plant_pair N x.0)) own
    ∙ filter_made (λ (x : PairNo). plant_pair N x.0) (λ x. record { 0 = x }) (λ x. plant_of N x == plant) (range_with_len 0 (length N.pairs))

pub incoming_are_own : (N : Table) (plant : ℕ) (numbers : List LaneNo) (own : List IncomingLane) → numbers ≡ lanes_to N plant
    → own ≡ map (λ l. incoming_lane N l.0) numbers → own ≡ incoming_lanes N plant
incoming_are_own N plant numbers own are made =
    made ∙ ap (map (λ (l : LaneNo). incoming_lane N l.0)) are
    ∙ filter_made (λ (l : LaneNo). incoming_lane N l.0) (λ l. record { 0 = l }) (λ l. receiver_of N l == plant) (range_with_len 0 (length (lanes N)))

pub outgoing_are_own : (N : Table) (plant : ℕ) (numbers : List LaneNo) (own : List OutgoingLane) → numbers ≡ lanes_from N plant
    → own ≡ map (λ l. outgoing_lane N l.0) numbers → own ≡ outgoing_lanes N plant
outgoing_are_own N plant numbers own are made =
    made ∙ ap (map (λ (l : LaneNo). outgoing_lane N l.0)) are
    ∙ filter_made (λ (l : LaneNo). outgoing_lane N l.0) (λ l. record { 0 = l }) (λ l. sender_of N l == plant) (range_with_len 0 (length (lanes N)))
