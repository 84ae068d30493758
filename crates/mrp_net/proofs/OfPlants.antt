-- The network: the pairs of each plant, and the lanes that it receives and sends, as they are kept and read.
use Rattle.std.proofs.Common.{◌≡◌, ℕ, ◌+◌, ◌<◌, ◌≤◌, ◌==◌, ◌⊎◌, inl, inr, List, [], length, map, get_or, slice_index, slice_index_or, slice_range, arith, refl, sym, ap, subst}
use Rattle.std.specs.List.{All, range_with_len}
use Rattle.std.proofs.lemmas.Bool.{ne_eqb}
use Rattle.std.proofs.lemmas.List.Elements.{All-filter, All-get_or}
use Rattle.std.proofs.lemmas.List.FromFn.{length-map-range_with_len, get_or-map-range_with_len}
use Rattle.mrp_grouping.specs.Groups.{group}
use Rattle.mrp_grouping.specs.Starts.{IsGrouped}
use Rattle.mrp_grouping.proofs.Sorting.{filter_none, IsGrouped-within}
use Rattle.mrp_master_data.specs.declared.numbers.PairNo.{PairNo}
use Rattle.mrp_master_data.specs.Table.{Table, IsTable, IsPair}
use Rattle.mrp_net.specs.declared.lane.Lane.{Lane}
use Rattle.mrp_net.specs.declared.lane.LaneKind.{LaneKind}
use Rattle.mrp_net.specs.declared.lane.LaneKind.TheVariants.{Despatch, Schedule}
use Rattle.mrp_net.specs.declared.lane.LaneNo.{LaneNo}
use Rattle.mrp_net.specs.Lanes.{lanes, lane_at, no_lane, customer_of, supplier_of}
use Rattle.mrp_net.specs.Plants.{pair_numbers, lane_numbers, plant_of, receiver_of, sender_of, pairs_of, lanes_to, lanes_from}
use Rattle.mrp_net.specs.Plants.{ArePairs, AreReceived, AreSent}
use Rattle.mrp_net.specs.Routes.{IsLane}
use Rattle.mrp_net.specs.Sums.{pair_at, no_pair}
use Rattle.mrp_net.proofs.Routing.{lanes_join}

-- what holds of each number holds of all that are made of numbers
pub all_numbers : {A : Type 0} (f : ℕ → A) (P : A → Type 0) (n : ℕ) → ((x : ℕ) → x < n → P (f x)) → All P (map f (range_with_len 0 n))
all_numbers {A} f P n each k d here =
    let below : k < n = omega (arith, here, length-map-range_with_len f 0 n) in
    subst P (sym (get_or-map-range_with_len f 0 n k k d below (omega arith))) (each k below)

pub pairs_are_there : (N : Table) → All (λ x. IsPair N x.0) (pair_numbers (length N.pairs))
pairs_are_there N = all_numbers (λ x. record { 0 = x }) (λ (x : PairNo). IsPair N x.0) (length N.pairs) (λ x below. below)

pub lanes_are_there : (count : ℕ) → All (λ l. l.0 < count) (lane_numbers count)
lanes_are_there count = all_numbers (λ l. record { 0 = l }) (λ (l : LaneNo). l.0 < count) count (λ l below. below)

-- pairs and both ends of lanes are of plants of the table
kind_is : (kind : LaneKind) → (kind ≡ Despatch) ⊎ (kind ≡ Schedule)
kind_is Despatch = inl refl
kind_is Schedule = inr refl

sender_is : (lane : Lane) → (customer_of lane ≡ lane.sender.0) ⊎ (supplier_of lane ≡ lane.sender.0)
sender_is lane = elim (kind_is lane.kind) [
  | inl e ↦ inr (ap (λ (k : LaneKind). elim k as (λ _. ℕ) [ Despatch ↦ lane.sender.0 | Schedule ↦ lane.receiver.0 ]) e)
  | inr e ↦ inl (ap (λ (k : LaneKind). elim k as (λ _. ℕ) [ Despatch ↦ lane.receiver.0 | Schedule ↦ lane.sender.0 ]) e)
]

receiver_is : (lane : Lane) → (customer_of lane ≡ lane.receiver.0) ⊎ (supplier_of lane ≡ lane.receiver.0)
receiver_is lane = elim (kind_is lane.kind) [
  | inl e ↦ inl (ap (λ (k : LaneKind). elim k as (λ _. ℕ) [ Despatch ↦ lane.receiver.0 | Schedule ↦ lane.sender.0 ]) e)
  | inr e ↦ inr (ap (λ (k : LaneKind). elim k as (λ _. ℕ) [ Despatch ↦ lane.sender.0 | Schedule ↦ lane.receiver.0 ]) e)
]

joins : (N : Table) (l : ℕ) → l < length (lanes N) → IsLane N (lane_at N l)
joins N l within = All-get_or (IsLane N) (lanes N) l no_lane within (lanes_join N)

pub sender_is_there : (N : Table) (l : ℕ) → l < length (lanes N) → (lane_at N l).sender.0 < length N.plants
sender_is_there N l within = elim (sender_is (lane_at N l)) [
  | inl e ↦ subst (λ (p : ℕ). p < length N.plants) e (joins N l within).customer
  | inr e ↦ subst (λ (p : ℕ). p < length N.plants) e (joins N l within).supplier
]

pub receiver_is_there : (N : Table) (l : ℕ) → l < length (lanes N) → (lane_at N l).receiver.0 < length N.plants
receiver_is_there N l within = elim (receiver_is (lane_at N l)) [
  | inl e ↦ subst (λ (p : ℕ). p < length N.plants) e (joins N l within).customer
  | inr e ↦ subst (λ (p : ℕ). p < length N.plants) e (joins N l within).supplier
]

pub owner_is_there : (N : Table) → IsTable N → (x : ℕ) → IsPair N x → (pair_at N x).plant.0 < length N.plants
owner_is_there N table x pair = (table.read.pairs x no_pair pair).plant

pub pairs_have_plants : (N : Table) → IsTable N → All (λ x. plant_of N x < length N.plants) (pair_numbers (length N.pairs))
pairs_have_plants N table =
    all_numbers (λ x. record { 0 = x }) (λ (x : PairNo). plant_of N x < length N.plants) (length N.pairs) (owner_is_there N table)

pub lanes_have_receivers : (N : Table) → All (λ l. receiver_of N l < length N.plants) (lane_numbers (length (lanes N)))
lanes_have_receivers N =
    all_numbers (λ l. record { 0 = l }) (λ (l : LaneNo). receiver_of N l < length N.plants) (length (lanes N)) (receiver_is_there N)

pub lanes_have_senders : (N : Table) → All (λ l. sender_of N l < length N.plants) (lane_numbers (length (lanes N)))
lanes_have_senders N =
    all_numbers (λ l. record { 0 = l }) (λ (l : LaneNo). sender_of N l < length N.plants) (length (lanes N)) (sender_is_there N)

-- what has a key below n isn't in a group behind
pub group_none : {X : Type 0} (key : X → ℕ) (n k : ℕ) (rows : List X) → All (λ r. key r < n) rows → n ≤ k → [] ≡ group key k rows
group_none {X} key n k rows keys past =
    sym (filter_none (λ r. key r == k) rows (λ i d here. ne_eqb (key (get_or rows i d)) k (λ e. let below = keys i d here in absurd (omega arith))))

-- what is in a group is one of the rows
pub group_of : {X : Type 0} (P : X → Type 0) (key : X → ℕ) (k : ℕ) (rows read : List X) → All P rows → read ≡ group key k rows → All P read
group_of P key k rows read each is = subst (All P) (sym is) (All-filter (λ r. key r == k) P rows each)

-- ---- as they are kept

-- the numbers of all lanes, by a plant of each
pub lane_keys : (end : Lane → ℕ) (N : Table) (all : List Lane) (numbers : List LaneNo) (plants : ℕ)
    → All (λ (l : LaneNo). end (lane_at N l.0) < length N.plants) (lane_numbers (length (lanes N)))
    → all ≡ lanes N → numbers ≡ lane_numbers (length all) → plants ≡ length N.plants
    → All (λ (l : LaneNo). end (slice_index_or all l.0 no_lane) < plants) numbers
lane_keys end N all numbers plants each is count same =
    let keys : All (λ (l : LaneNo). end (slice_index_or all l.0 no_lane) < length N.plants) (lane_numbers (length all)) =
    subst (λ (xs : List Lane). All (λ (l : LaneNo). end (slice_index_or xs l.0 no_lane) < length N.plants) (lane_numbers (length xs))) (sym is) each in
    subst (λ (xs : List LaneNo). All (λ (l : LaneNo). end (slice_index_or all l.0 no_lane) < plants) xs) (sym count)
    (subst (λ (n : ℕ). All (λ (l : LaneNo). end (slice_index_or all l.0 no_lane) < n) (lane_numbers (length all))) (sym same) keys)

pub lanes_grouped : (end : Lane → ℕ) (N : Table) (all : List Lane) (numbers rows : List LaneNo) (starts : List ℕ) (plants : ℕ)
    → IsGrouped (λ l. end (slice_index_or all l.0 no_lane)) plants numbers rows starts
    → all ≡ lanes N → numbers ≡ lane_numbers (length all) → plants ≡ length N.plants
    → IsGrouped (λ l. end (lane_at N l.0)) (length N.plants) (lane_numbers (length (lanes N))) rows starts
lanes_grouped end N all numbers rows starts plants are is count same =
    subst (λ (xs : List Lane). IsGrouped (λ (l : LaneNo). end (slice_index_or xs l.0 no_lane)) (length N.plants) (lane_numbers (length xs)) rows starts) is
    (subst (λ (n : ℕ). IsGrouped (λ (l : LaneNo). end (slice_index_or all l.0 no_lane)) n (lane_numbers (length all)) rows starts) same
    (subst (λ (xs : List LaneNo). IsGrouped (λ (l : LaneNo). end (slice_index_or all l.0 no_lane)) plants xs rows starts) count are))

-- ---- as they are read

-- the group of a number is the slice from where it begins
pub record ReadsGroup {X : Type 0} (found sorted : List X) (starts : List ℕ) (k : ℕ) : Type 0 where
  pub rises : slice_index starts k ≤ slice_index starts (k + 1)
  pub within : slice_index starts (k + 1) ≤ length sorted
  pub value : slice_range sorted (slice_index starts k) (slice_index starts (k + 1)) ≡ found

pub group_read : {X : Type 0} (key : Table → X → ℕ) (rows : Table → List X) (N M : Table) (sorted : List X) (starts : List ℕ) (k : ℕ) → N ≡ M
    → IsGrouped (key N) (length N.plants) (rows N) sorted starts → k < length M.plants → ReadsGroup (group (key M) k (rows M)) sorted starts k
group_read {X} key rows N M sorted starts k is are below =
    let here : k < length N.plants = subst (λ (z : Table). k < length z.plants) (sym is) below in
    let ends = IsGrouped-within (key N) (length N.plants) (rows N) sorted starts k are here in
    subst (λ (z : Table). ReadsGroup (group (key z) k (rows z)) sorted starts k) is (record { rises = ends.0; within = ends.1; value = are.slices k here })

pub pairs_read : (N M : Table) (sorted : List PairNo) (starts : List ℕ) (k : ℕ) → N ≡ M → ArePairs N sorted starts → k < length M.plants
    → ReadsGroup (pairs_of M k) sorted starts k
pairs_read N M = group_read plant_of (λ (z : Table). pair_numbers (length z.pairs)) N M

pub received_read : (N M : Table) (sorted : List LaneNo) (starts : List ℕ) (k : ℕ) → N ≡ M → AreReceived N sorted starts → k < length M.plants
    → ReadsGroup (lanes_to M k) sorted starts k
received_read N M = group_read receiver_of (λ (z : Table). lane_numbers (length (lanes z))) N M

pub sent_read : (N M : Table) (sorted : List LaneNo) (starts : List ℕ) (k : ℕ) → N ≡ M → AreSent N sorted starts → k < length M.plants
    → ReadsGroup (lanes_from M k) sorted starts k
sent_read N M = group_read sender_of (λ (z : Table). lane_numbers (length (lanes z))) N M
