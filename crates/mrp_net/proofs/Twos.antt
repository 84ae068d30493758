-- The network: its lanes stand in twos, each once, and each source has its two.
use Rattle.std.proofs.Common.{◌≡◌, ◌≢◌, ℕ, suc, zero, ◌*◌, ◌<◌, ◌==◌, ◌&&◌, inl, inr, List, [], ◌∷◌, ◌++◌, length, map, get_or, refl, sym, ap, subst, arith}
use Rattle.std.proofs.Common.{add-one}
use Rattle.std.specs.List.{All, AllPairs, Contains, flat_map, range_with_len}
use Rattle.std.proofs.lemmas.Bool.{cond_both, eq-eqb, and_from}
use Rattle.std.proofs.lemmas.List.Elements.{All-nil, All-cons, Contains-get_or}
use Rattle.std.proofs.lemmas.List.Kept.{AllPairs-cons}
use Rattle.mrp_master_data.specs.declared.numbers.PlantNo.{PlantNo}
use Rattle.mrp_master_data.specs.declared.rows.SourceRow.{SourceRow}
use Rattle.mrp_master_data.specs.Table.{Table}
use Rattle.mrp_net.specs.declared.lane.Lane.{Lane}
use Rattle.mrp_net.specs.declared.lane.LaneKind.TheVariants.{Despatch, Schedule}
use Rattle.mrp_net.specs.Lanes.{lanes, lanes_of, lanes_between, both_lanes, lane_at, taken_over, item_of_source, customer_of, supplier_of}
use Rattle.mrp_net.specs.LaneLaws.{despatch_lane, schedule_lane, AreBothLanes, LanesComeInTwos, LanesStandOnce, SourcesHaveLanes}
use Rattle.mrp_net.specs.Sums.{pair_at, no_pair}
use Rattle.mrp_net.proofs.Members.{In, In-from_contains, Contains-from_in, In-filter, In-map, In-flat_map, In-range}
use Rattle.mrp_net.proofs.Pieces.{All-pieces, AllPairs-pieces}
use Rattle.mrp_net.proofs.Routing.{some_lanes}

-- ---- in twos

abbrev AreTwos : List Lane → Type 0
AreTwos [] = Unit {0}
AreTwos (d ∷ []) = ⊥
AreTwos (d ∷ s ∷ rest) = AreBothLanes d s × AreTwos rest

twos-append : (xs ys : List Lane) → AreTwos xs → AreTwos ys → AreTwos (xs ++ ys)
twos-append [] ys h g = g
twos-append (d ∷ []) ys h g = absurd h
twos-append (d ∷ s ∷ rest) ys h g = (h.0, twos-append rest ys h.1 g)

twos-flat_map : (f : ℕ → List Lane) (ks : List ℕ) → ((k : ℕ) → AreTwos (f k)) → AreTwos (flat_map f ks)
twos-flat_map f [] each = tt
twos-flat_map f (k ∷ ks) each = twos-append (f k) (flat_map f ks) (each k) (twos-flat_map f ks each)

between_are_twos : (N : Table) (customer supplier : ℕ) → AreTwos (lanes_between N customer supplier)
between_are_twos N customer supplier =
    cond_both (length (taken_over N customer supplier) == 0) [] (both_lanes (record { 0 = customer }) (record { 0 = supplier })) AreTwos
    (λ _. tt)
    (λ _. (record { first = refl; second = refl; customer = refl; supplier = refl }, tt))

two_at : (xs : List Lane) (k i : ℕ) (d : Lane) → AreTwos xs → i ≡ 2 * k → i < length xs
    → (suc i < length xs) × AreBothLanes (get_or xs i d) (get_or xs (suc i) d)
two_at [] k i d h e l = absurd (omega arith)
two_at (a ∷ []) k i d h e l = absurd h
two_at (a ∷ b ∷ rest) zero zero d h e l = (omega arith, h.0)
two_at (a ∷ b ∷ rest) zero (suc i) d h e l = absurd (omega arith)
two_at (a ∷ b ∷ rest) (suc k) zero d h e l = absurd (omega arith)
two_at (a ∷ b ∷ rest) (suc k) (suc zero) d h e l = absurd (omega arith)
two_at (a ∷ b ∷ rest) (suc k) (suc (suc i)) d h e l =
    let later = two_at rest k i d h.1 (omega arith) (omega arith) in
    (omega (arith, later.0), later.1)

pub lanes_come_in_twos : LanesComeInTwos
lanes_come_in_twos N k l =
    let plants = range_with_len 0 (length N.plants) in
    let twos : AreTwos (lanes N) = twos-flat_map (lanes_of N) plants
    (λ customer. twos-flat_map (lanes_between N customer) plants (λ supplier. between_are_twos N customer supplier)) in
    let none : Lane = record { kind = Despatch; sender = record { 0 = 0 }; receiver = record { 0 = 0 } } in
    let both = two_at (lanes N) k (2 * k) none twos refl l in
    (omega (arith, both.0), subst (λ (i : ℕ). AreBothLanes (lane_at N (2 * k)) (lane_at N i)) (sym (add-one (2 * k))) both.1)

-- ---- once

kinds_apart : Despatch ≡ Schedule → ⊥
kinds_apart e = cc

between_joins : (N : Table) (customer supplier : ℕ) → All (λ lane. (customer_of lane ≡ customer) × (supplier_of lane ≡ supplier))
    (lanes_between N customer supplier)
between_joins N customer supplier =
    let P = λ (lane : Lane). (customer_of lane ≡ customer) × (supplier_of lane ≡ supplier) in
    let despatch : Lane = record { kind = Despatch; sender = record { 0 = supplier }; receiver = record { 0 = customer } } in
    let schedule : Lane = record { kind = Schedule; sender = record { 0 = customer }; receiver = record { 0 = supplier } } in
    cond_both (length (taken_over N customer supplier) == 0) [] (both_lanes (record { 0 = customer }) (record { 0 = supplier })) (λ (z : List Lane). All P z)
    (λ _. All-nil P)
    (λ _. All-cons P despatch (schedule ∷ []) (refl, refl) (All-cons P schedule [] (refl, refl) (All-nil P)))

between_once : (N : Table) (customer supplier : ℕ) → AllPairs (λ a b. a ≢ b) (lanes_between N customer supplier)
between_once N customer supplier =
    let R = λ (a b : Lane). a ≢ b in
    let despatch : Lane = record { kind = Despatch; sender = record { 0 = supplier }; receiver = record { 0 = customer } } in
    let schedule : Lane = record { kind = Schedule; sender = record { 0 = customer }; receiver = record { 0 = supplier } } in
    cond_both (length (taken_over N customer supplier) == 0) [] (both_lanes (record { 0 = customer }) (record { 0 = supplier }))
    (λ (z : List Lane). AllPairs R z)
    (λ _ i j d low lt. absurd (omega arith))
    (λ _. AllPairs-cons R despatch (schedule ∷ []) (All-cons (R despatch) schedule [] (λ e. kinds_apart (ap (λ (l : Lane). l.kind) e)) (All-nil (R despatch)))
    (AllPairs-cons R schedule [] (All-nil (R schedule)) (λ i j d low lt. absurd (omega arith))))

of_joins : (N : Table) (customer : ℕ) → All (λ lane. customer_of lane ≡ customer) (lanes_of N customer)
of_joins N customer =
    All-pieces (λ lane. customer_of lane ≡ customer) (lanes_between N customer) 0 (length N.plants) (λ k low high i d lt. (between_joins N customer k i d lt).0)

differs : (key : Lane → ℕ) (a b : Lane) → key a < key b → a ≢ b
differs key a b low same = omega (arith, ap key same)

of_once : (N : Table) (customer : ℕ) → AllPairs (λ a b. a ≢ b) (lanes_of N customer)
of_once N customer =
    AllPairs-pieces (λ a b. a ≢ b) supplier_of (lanes_between N customer) 0 (length N.plants) (differs supplier_of) (between_once N customer)
    (λ k i d lt. (between_joins N customer k i d lt).1)

pub lanes_stand_once : LanesStandOnce
lanes_stand_once N = AllPairs-pieces (λ a b. a ≢ b) customer_of (lanes_of N) 0 (length N.plants) (differs customer_of) (of_once N) (of_joins N)

-- ---- of each source

source_is_taken : (N : Table) (s : SourceRow) → In N.sources s → In (taken_over N (pair_at N s.pair.0).plant.0 s.plant.0) s
source_is_taken N s h =
    let customer = (pair_at N s.pair.0).plant.0 in
    In-filter (λ (r : SourceRow). ((pair_at N r.pair.0).plant.0 == customer) && (r.plant.0 == s.plant.0)) N.sources s h
    (and_from (customer == customer) (s.plant.0 == s.plant.0) (eq-eqb customer customer refl) (eq-eqb s.plant.0 s.plant.0 refl))

pub some_in : {X : Type 0} (xs : List X) (x : X) → In xs x → 0 < length xs
some_in [] x h = absurd h
some_in (y ∷ ys) x h = omega arith

between_is_lane : (N : Table) (customer supplier : PlantNo) (lane : Lane) → 0 < length (taken_over N customer.0 supplier.0) → customer.0 < length N.plants
    → supplier.0 < length N.plants
    → In (both_lanes customer supplier) lane → Contains (lanes N) lane
between_is_lane N customer supplier lane some c s h =
    let n = length N.plants in
    let here : In (lanes_between N customer.0 supplier.0) lane = subst (λ (z : List Lane). In z lane) (sym (some_lanes N customer.0 supplier.0 some)) h in
    let of : In (lanes_of N customer.0) lane = In-flat_map (lanes_between N customer.0) (range_with_len 0 n) supplier.0 lane
    (In-range 0 n supplier.0 (omega arith) (omega arith)) here in
    Contains-from_in (lanes N) lane (In-flat_map (lanes_of N) (range_with_len 0 n) customer.0 lane (In-range 0 n customer.0 (omega arith) (omega arith)) of)

pub sources_have_lanes : SourcesHaveLanes
sources_have_lanes N is k d h =
    let s : SourceRow = get_or N.sources k d in
    let row = is.read.sources k d h in
    let own = is.read.pairs s.pair.0 no_pair row.pair in
    let customer : PlantNo = (pair_at N s.pair.0).plant in
    let taken = source_is_taken N s (In-from_contains N.sources s (Contains-get_or N.sources k d h)) in
    let some = some_in (taken_over N customer.0 s.plant.0) s taken in
    let item = Contains-from_in (map (item_of_source N) (taken_over N customer.0 s.plant.0)) (item_of_source N s)
    (In-map (item_of_source N) (taken_over N customer.0 s.plant.0) s taken) in
    record {
      despatch = between_is_lane N customer s.plant (despatch_lane N s) some own.plant row.plant (inl refl);
      schedule = between_is_lane N customer s.plant (schedule_lane N s) some own.plant row.plant (inr (inl refl));
      despatched = item;
      scheduled = item;
    }
