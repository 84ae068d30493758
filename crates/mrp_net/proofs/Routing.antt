-- The network: its lanes and their items, which are what stands in the groups of the routes.
use Rattle.std.proofs.Common.{◌≡◌, ℕ, suc, zero, ◌+◌, ◌*◌, ◌<◌, ◌≤◌, ◌&&◌, Bool, cond, eqb, List, [], ◌∷◌, ◌++◌, inl, inr, length, get_or, map, take, drop}
use Rattle.std.proofs.Common.{slice_index, slice_range, refl, sym, ap, ◌∙◌, subst, arith, add-one}
use Rattle.std.specs.List.{All, filter, flat_map, range_with_len}
use Rattle.std.proofs.lemmas.Bool.{cond_both, cases_eq, cases_Bool, eq-eqb, eqb-true, ne_eqb, and_from, and_parts, false_from_ne_true}
use Rattle.std.proofs.lemmas.List.{append-nil, append_assoc, length-append, length-map, take-map, drop-map}
use Rattle.std.proofs.lemmas.List.Concat.{flat_map-append}
use Rattle.std.proofs.lemmas.List.Elements.{All-nil, All-head, All-tail, All-cons, All-append, All-filter, All-map}
use Rattle.std.proofs.lemmas.Nat.{same_from_place, mul-add-lt}
use Rattle.std.proofs.lemmas.Slice.{between_is}
use Rattle.mrp_master_data.specs.declared.numbers.ItemNo.{ItemNo}
use Rattle.mrp_master_data.specs.declared.rows.SourceRow.{SourceRow}
use Rattle.mrp_master_data.specs.Table.{Table, IsTable, IsSourceRow}
use Rattle.mrp_net.specs.declared.lane.Lane.{Lane}
use Rattle.mrp_net.specs.declared.lane.LaneKind.{LaneKind}
use Rattle.mrp_net.specs.declared.lane.LaneKind.TheVariants.{Despatch, Schedule}
use Rattle.mrp_net.specs.declared.lanes.Taken.{Taken}
use Rattle.mrp_grouping.specs.Groups.{group, sorted_by}
use Rattle.mrp_grouping.specs.Starts.{IsGrouped, ShowsGroups}
use Rattle.mrp_net.specs.Sums.{pair_at, no_pair}
use Rattle.mrp_net.specs.Lanes.{lanes, lanes_of, lanes_between, both_lanes, lane_items, pair_on, taken_over, item_of_source, figure, shipped_from, opening}
use Rattle.mrp_net.specs.Lanes.{customer_of, supplier_of}
use Rattle.mrp_net.specs.Routes.{route_no, taken, AreItems, IsLane}
use Rattle.mrp_grouping.proofs.Grouping.{range-suc, sorted_by-suc}
use Rattle.mrp_grouping.proofs.Sorting.{IsGrouped-from_begins, IsGrouped-within}

pub filter-map : {X Y : Type 0} (p : Y → Bool) (f : X → Y) (xs : List X) → filter p (map f xs) ≡ map f (filter (λ x. p (f x)) xs)
filter-map p f [] = refl
filter-map {X} {Y} p f (x ∷ xs) =
    elim (cases_Bool (p (f x))) as (λ _. filter p (map f (x ∷ xs)) ≡ map f (filter (λ x. p (f x)) (x ∷ xs))) [
      | inl h ↦ ap (λ (b : Bool). cond b (f x ∷ filter p (map f xs)) (filter p (map f xs))) h ∙ ap (λ (z : List Y). f x ∷ z) (filter-map p f xs)
          ∙ sym (ap (λ (b : Bool). map f (cond b (x ∷ filter (λ x. p (f x)) xs) (filter (λ x. p (f x)) xs))) h)
      | inr h ↦ ap (λ (b : Bool). cond b (f x ∷ filter p (map f xs)) (filter p (map f xs))) h ∙ filter-map p f xs
          ∙ sym (ap (λ (b : Bool). map f (cond b (x ∷ filter (λ x. p (f x)) xs) (filter (λ x. p (f x)) xs))) h)
    ]

pub map-map : {X Y Z : Type 0} (f : Y → Z) (g : X → Y) (xs : List X) → map f (map g xs) ≡ map (λ x. f (g x)) xs
map-map f g [] = refl
map-map {X} {Y} {Z} f g (x ∷ xs) = ap (λ (z : List Z). f (g x) ∷ z) (map-map f g xs)

-- two tests that agree on a list's elements
pub filter_same : {X : Type 0} (p q : X → Bool) (xs : List X) → All (λ x. p x ≡ q x) xs → filter p xs ≡ filter q xs
filter_same p q [] h = refl
filter_same {X} p q (x ∷ xs) h =
    ap (λ (b : Bool). cond b (x ∷ filter p xs) (filter p xs)) (All-head (λ x. p x ≡ q x) x xs h)
    ∙ ap (λ (z : List X). cond (q x) (x ∷ z) z) (filter_same p q xs (All-tail (λ x. p x ≡ q x) x xs h))

-- one number for two is the same where both are
place_test : (a b c d w : ℕ) → b < w → d < w → eqb (a * w + b) (c * w + d) ≡ (eqb a c && eqb b d)
place_test a b c d w h g =
    elim (cases_eq (a * w + b) (c * w + d)) as (λ _. eqb (a * w + b) (c * w + d) ≡ (eqb a c && eqb b d)) [
      | inl e ↦
          let both = same_from_place a b c d w h g e in
          eq-eqb (a * w + b) (c * w + d) e ∙ sym (and_from (eqb a c) (eqb b d) (eq-eqb a c both.0) (eq-eqb b d both.1))
      | inr ne ↦
          ne_eqb (a * w + b) (c * w + d) ne
          ∙ sym (false_from_ne_true (eqb a c && eqb b d) (λ t. let parts = and_parts (eqb a c) (eqb b d) t in
          ne (ap (λ (z : ℕ). z * w + b) (eqb-true a c parts.0) ∙ ap (λ (z : ℕ). c * w + z) (eqb-true b d parts.1))))
    ]

-- what is shown of a group is a slice
as_grouped : {X Y : Type 0} (shown : X → Y) (key : X → ℕ) (n : ℕ) (rows : List X) (sorted : List Y) (starts : List ℕ)
    → ShowsGroups shown key n rows sorted starts → IsGrouped key n rows (sorted_by key n rows) starts
as_grouped shown key n rows sorted starts are = IsGrouped-from_begins key n rows (sorted_by key n rows) starts refl are.size are.begins

pub ShowsGroups-from_grouped : {X Y : Type 0} (shown : X → Y) (key : X → ℕ) (n : ℕ) (rows found : List X) (sorted : List Y) (starts : List ℕ)
    → IsGrouped key n rows found starts → sorted ≡ map shown found → ShowsGroups shown key n rows sorted starts
ShowsGroups-from_grouped shown key n rows found sorted starts are e = record { is = e ∙ ap (map shown) are.is; size = are.size; begins = are.begins }

slice_of_map : {X Y : Type 0} (f : X → Y) (xs : List X) (a b : ℕ) → slice_range (map f xs) a b ≡ map f (slice_range xs a b)
slice_of_map f xs a b = between_is (map f xs) a b ∙ ap (drop a) (take-map f b xs) ∙ drop-map f a (take b xs) ∙ ap (map f) (sym (between_is xs a b))

pub ShowsGroups-slice : {X Y : Type 0} (shown : X → Y) (key : X → ℕ) (n : ℕ) (rows : List X) (sorted : List Y) (starts : List ℕ) (k : ℕ)
    → ShowsGroups shown key n rows sorted starts → k < n → slice_range sorted (slice_index starts k) (slice_index starts (k + 1)) ≡ map shown (group key k rows)
ShowsGroups-slice {X} {Y} shown key n rows sorted starts k are h =
    ap (λ (z : List Y). slice_range z (slice_index starts k) (slice_index starts (k + 1))) are.is
    ∙ slice_of_map shown (sorted_by key n rows) (slice_index starts k) (slice_index starts (k + 1))
    ∙ ap (map shown) ((as_grouped shown key n rows sorted starts are).slices k h)

pub ShowsGroups-within : {X Y : Type 0} (shown : X → Y) (key : X → ℕ) (n : ℕ) (rows : List X) (sorted : List Y) (starts : List ℕ) (k : ℕ)
    → ShowsGroups shown key n rows sorted starts → k < n → (slice_index starts k ≤ slice_index starts (k + 1)) × (slice_index starts (k + 1) ≤ length sorted)
ShowsGroups-within shown key n rows sorted starts k are h =
    let both = IsGrouped-within key n rows (sorted_by key n rows) starts k (as_grouped shown key n rows sorted starts are) h in
    (both.0, omega (arith, both.1, ap length are.is, length-map (sorted_by key n rows) shown))

ShowsGroups-length : {X Y : Type 0} (shown : X → Y) (key : X → ℕ) (n : ℕ) (rows : List X) (sorted : List Y) (starts : List ℕ) (k : ℕ)
    → ShowsGroups shown key n rows sorted starts → k < n → slice_index starts (k + 1) ≡ slice_index starts k + length (group key k rows)
ShowsGroups-length shown key n rows sorted starts k are h =
    are.begins (k + 1) (omega arith)
    ∙ ap (λ (z : ℕ). length (sorted_by key z rows)) (add-one k)
    ∙ ap length (sorted_by-suc key k rows)
    ∙ omega (arith, length-append (sorted_by key k rows) (group key k rows), are.begins k (omega arith))

pub route_within : (N : Table) (customer supplier : ℕ) → customer < length N.plants → supplier < length N.plants
    → route_no N customer supplier < length N.plants * length N.plants
route_within N customer supplier h g = mul-add-lt customer (length N.plants) supplier (length N.plants) h g

-- the group of a route is what is taken over it
pub taken_group : (N : Table) (customer supplier : ℕ) → IsTable N → supplier < length N.plants
    → group (λ t. t.route) (route_no N customer supplier) (map (taken N) N.sources) ≡ map (taken N) (taken_over N customer supplier)
taken_group N customer supplier is h =
    filter-map (λ t. eqb t.route (route_no N customer supplier)) (taken N) N.sources
    ∙ ap (map (taken N)) (filter_same (λ s. eqb (taken N s).route (route_no N customer supplier)) (λ s. eqb (pair_at N s.pair.0).plant.0 customer
    && eqb s.plant.0 supplier) N.sources
    (λ k d lt. place_test (pair_at N (get_or N.sources k d).pair.0).plant.0 (get_or N.sources k d).plant.0 customer supplier (length N.plants)
    (is.read.sources k d lt).plant h))

items_slice : (N : Table) (rows : List ItemNo) (starts : List ℕ) (customer supplier : ℕ) → IsTable N → AreItems N rows starts → customer < length N.plants
    → supplier < length N.plants → slice_range rows (slice_index starts (route_no N customer supplier)) (slice_index starts (route_no N customer supplier + 1))
    ≡ map (item_of_source N) (taken_over N customer supplier)
items_slice N rows starts customer supplier is are h g =
    ShowsGroups-slice (λ (t : Taken). t.item) (λ t. t.route) (length N.plants * length N.plants) (map (taken N) N.sources) rows starts
    (route_no N customer supplier) are (route_within N customer supplier h g)
    ∙ ap (map (λ (t : Taken). t.item)) (taken_group N customer supplier is g)
    ∙ map-map (λ (t : Taken). t.item) (taken N) (taken_over N customer supplier)

pub items_length : (N : Table) (rows : List ItemNo) (starts : List ℕ) (customer supplier : ℕ) → IsTable N → AreItems N rows starts → customer < length N.plants
    → supplier < length N.plants → slice_index starts (route_no N customer supplier + 1) ≡ slice_index starts (route_no N customer supplier)
    + length (taken_over N customer supplier)
items_length N rows starts customer supplier is are h g =
    ShowsGroups-length (λ (t : Taken). t.item) (λ t. t.route) (length N.plants * length N.plants) (map (taken N) N.sources) rows starts
    (route_no N customer supplier) are (route_within N customer supplier h g)
    ∙ ap (λ (z : ℕ). slice_index starts (route_no N customer supplier) + z) (ap length (taken_group N customer supplier is g)
    ∙ length-map (taken_over N customer supplier) (taken N))

-- one number more in a range
pub flat_map-range-more : {X : Type 0} (f : ℕ → List X) (k : ℕ) → flat_map f (range_with_len 0 (k + 1)) ≡ flat_map f (range_with_len 0 k) ++ f k
flat_map-range-more {X} f k =
    ap (λ (z : ℕ). flat_map f (range_with_len 0 z)) (add-one k)
    ∙ ap (flat_map f) (range-suc k)
    ∙ flat_map-append f (range_with_len 0 k) (k ∷ [])
    ∙ ap (λ (z : List X). flat_map f (range_with_len 0 k) ++ z) (append-nil (f k))

-- the lanes between two plants, by whether something is taken
pub no_lanes : (N : Table) (customer supplier : ℕ) → length (taken_over N customer supplier) ≡ 0 → lanes_between N customer supplier ≡ []
no_lanes N customer supplier h = ap (λ (b : Bool). cond b [] (both_lanes (record { 0 = customer }) (record { 0 = supplier })))
    (eq-eqb (length (taken_over N customer supplier)) 0 h)

pub some_lanes : (N : Table) (customer supplier : ℕ) → 0 < length (taken_over N customer supplier)
    → lanes_between N customer supplier ≡ both_lanes (record { 0 = customer }) (record { 0 = supplier })
some_lanes N customer supplier h = ap (λ (b : Bool). cond b [] (both_lanes (record { 0 = customer }) (record { 0 = supplier })))
    (ne_eqb (length (taken_over N customer supplier)) 0 (λ e. omega arith))

pub lanes_more : (N : Table) (before now after : List Lane) (customer supplier : ℕ)
    → now ≡ before ++ flat_map (lanes_between N customer) (range_with_len 0 supplier) → after ≡ now ++ lanes_between N customer supplier
    → after ≡ before ++ flat_map (lanes_between N customer) (range_with_len 0 (supplier + 1))
lanes_more N before now after customer supplier e f =
    f
    ∙ ap (λ (z : List Lane). z ++ lanes_between N customer supplier) e
    ∙ append_assoc before (flat_map (lanes_between N customer) (range_with_len 0 supplier)) (lanes_between N customer supplier)
    ∙ ap (λ (z : List Lane). before ++ z) (sym (flat_map-range-more (lanes_between N customer) supplier))

-- every lane joins plants of the table
pub All-flat_map-range : {X : Type 0} (P : X → Type 0) (f : ℕ → List X) (n : ℕ) → ((k : ℕ) → k < n → All P (f k)) → All P (flat_map f (range_with_len 0 n))
All-flat_map-range P f zero h = All-nil P
All-flat_map-range P f (suc n) h =
    subst (All P) (ap (λ (z : ℕ). flat_map f (range_with_len 0 z)) (add-one n))
    (subst (All P) (sym (flat_map-range-more f n)) (All-append P (flat_map f (range_with_len 0 n)) (f n)
    (All-flat_map-range P f n (λ k lt. h k (omega arith))) (h n (omega arith))))

both_are_lanes : (N : Table) (customer supplier : ℕ) → customer < length N.plants → supplier < length N.plants
    → All (IsLane N) (both_lanes (record { 0 = customer }) (record { 0 = supplier }))
both_are_lanes N customer supplier h g =
    let despatch : Lane = record { kind = Despatch; sender = record { 0 = supplier }; receiver = record { 0 = customer } } in
    let schedule : Lane = record { kind = Schedule; sender = record { 0 = customer }; receiver = record { 0 = supplier } } in
    All-cons (IsLane N) despatch (schedule ∷ []) (record { customer = h; supplier = g })
    (All-cons (IsLane N) schedule [] (record { customer = h; supplier = g }) (All-nil (IsLane N)))

between_are_lanes : (N : Table) (customer supplier : ℕ) → customer < length N.plants → supplier < length N.plants
    → All (IsLane N) (lanes_between N customer supplier)
between_are_lanes N customer supplier h g =
    cond_both (eqb (length (taken_over N customer supplier)) 0) [] (both_lanes (record { 0 = customer }) (record { 0 = supplier }))
    (λ (z : List Lane). All (IsLane N) z) (λ _. All-nil (IsLane N)) (λ _. both_are_lanes N customer supplier h g)

pub lanes_join : (N : Table) → All (IsLane N) (lanes N)
lanes_join N = All-flat_map-range (IsLane N) (lanes_of N) (length N.plants)
    (λ customer h. All-flat_map-range (IsLane N) (lanes_between N customer) (length N.plants) (λ supplier g. between_are_lanes N customer supplier h g))

-- routes are numbered below their number
pub routes_within : (N : Table) → IsTable N → All (λ t. t.route < length N.plants * length N.plants) (map (taken N) N.sources)
routes_within N is =
    All-map (λ t. t.route < length N.plants * length N.plants) (taken N) N.sources
    (λ k d h. let row = is.read.sources k d h in
    mul-add-lt (pair_at N (get_or N.sources k d).pair.0).plant.0 (length N.plants) (get_or N.sources k d).plant.0 (length N.plants)
    (is.read.pairs (get_or N.sources k d).pair.0 no_pair row.pair).plant row.plant)

-- the items of a lane are the table's
pub lane_items_within : (N : Table) (lane : Lane) → IsTable N → All (λ item. item.0 < length N.items) (lane_items N lane)
lane_items_within N lane is =
    let test = λ (s : SourceRow). eqb (pair_at N s.pair.0).plant.0 (customer_of lane) && eqb s.plant.0 (supplier_of lane) in
    All-map (λ (item : ItemNo). item.0 < length N.items) (item_of_source N) (taken_over N (customer_of lane) (supplier_of lane))
    (λ k d h. let row = All-filter test (IsSourceRow N) N.sources is.read.sources k d h in
    (is.read.pairs (get_or (taken_over N (customer_of lane) (supplier_of lane)) k d).pair.0 no_pair row.pair).item)

-- the items of a lane as a network reads them
pub record ItemsOf (M : Table) (rows : List ItemNo) (starts : List ℕ) (route : ℕ) (lane : Lane) : Type 0 where
  pub rises : slice_index starts route ≤ slice_index starts (route + 1)
  pub within : slice_index starts (route + 1) ≤ length rows
  pub value : slice_range rows (slice_index starts route) (slice_index starts (route + 1)) ≡ lane_items M lane
  pub items : All (λ item. item.0 < length M.items) (lane_items M lane)

items_there : (N : Table) (rows : List ItemNo) (starts : List ℕ) (lane : Lane) → AreItems N rows starts → IsTable N → IsLane N lane
    → ItemsOf N rows starts (route_no N (customer_of lane) (supplier_of lane)) lane
items_there N rows starts lane are table joins =
    let route = route_no N (customer_of lane) (supplier_of lane) in
    let ends = ShowsGroups-within (λ (t : Taken). t.item) (λ t. t.route) (length N.plants * length N.plants) (map (taken N) N.sources) rows starts route are
    (route_within N (customer_of lane) (supplier_of lane) joins.customer joins.supplier) in
    record {
      rises = ends.0;
      within = ends.1;
      value = items_slice N rows starts (customer_of lane)
          (supplier_of lane) table are joins.customer joins.supplier;
      items = lane_items_within N lane table;
    }

pub items_of_lane : (N M : Table) (rows : List ItemNo) (starts : List ℕ) (lane at : Lane) (route : ℕ) → N ≡ M → AreItems N rows starts → IsTable N
    → IsLane M lane → lane ≡ at → route ≡ route_no M (customer_of lane) (supplier_of lane)
    → ItemsOf M rows starts route at
items_of_lane N M rows starts lane at route is are table joins same there =
    subst (ItemsOf M rows starts route) same
    (subst (λ (k : ℕ). ItemsOf M rows starts k lane) (sym there)
    (items_there M rows starts lane (subst (λ (z : Table). AreItems z rows starts) is are) (subst IsTable is table) joins))

-- where figures begin, by the kind of the lane
pub opening_despatch : (N : Table) (lane : Lane) (item : ItemNo) → lane.kind ≡ Despatch
    → opening N lane item ≡ figure N (pair_on N lane item) (supplier_of lane)
opening_despatch N lane item h =
    ap (λ (k : LaneKind). elim k as (λ _. ℕ) [
      | Despatch ↦ figure N (pair_on N lane item) (supplier_of lane)
      | Schedule ↦ figure N (pair_on N lane item) (supplier_of lane) + shipped_from N (pair_on N lane item) (supplier_of lane)
    ]) h

pub opening_schedule : (N : Table) (lane : Lane) (item : ItemNo) → lane.kind ≡ Schedule
    → opening N lane item ≡ figure N (pair_on N lane item) (supplier_of lane) + shipped_from N (pair_on N lane item) (supplier_of lane)
opening_schedule N lane item h =
    ap (λ (k : LaneKind). elim k as (λ _. ℕ) [
      | Despatch ↦ figure N (pair_on N lane item) (supplier_of lane)
      | Schedule ↦ figure N (pair_on N lane item) (supplier_of lane) + shipped_from N (pair_on N lane item) (supplier_of lane)
    ]) h
