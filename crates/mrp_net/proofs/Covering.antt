-- The network: each source is on one route, an item stands once over a route, and plans look at demanders alone.
use Rattle.std.proofs.Common.{◌≡◌, ℕ, ◌+◌, ◌<◌, ◌&&◌, Bool, true, false, cond, eqb, List, [], ◌∷◌, inl, inr, length, get_or, map, refl, sym, ap, ◌∙◌, subst}
use Rattle.std.proofs.Common.{arith, slice_index}
use Rattle.std.specs.List.{All, AllByRecursion, IsDistinct, filter, flat_map, range_with_len, sum_by}
use Rattle.std.proofs.lemmas.Bool.{cases_Bool, eqb-true, eq-eqb, and_from, and_parts, true≢false, false_from_ne_true}
use Rattle.std.proofs.lemmas.List.{get_or-map, length-map}
use Rattle.std.proofs.lemmas.List.Elements.{All-head, All-tail, All-filter, filter_passes, All-from_recursion, recursion_from_All}
use Rattle.std.proofs.lemmas.List.Sums.{sum_by-cons, sum_by-append}
use Rattle.std.proofs.lemmas.Map.Keys.{IsDistinct-head, IsDistinct-tail, IsDistinct-cons, IsDistinct-from_apart, apart_from_distinct}
use Rattle.mrp_netting.specs.PlanningData.{planned, one}
use Rattle.mrp_master_data.specs.declared.numbers.ItemNo.{ItemNo}
use Rattle.mrp_master_data.specs.declared.rows.SourceRow.{SourceRow}
use Rattle.mrp_master_data.specs.Table.{Table, IsTable, IsPair, IsSourceRow, horizon, is_same_source, pair_no}
use Rattle.mrp_net.specs.declared.edge.Edge.{Edge}
use Rattle.mrp_net.specs.Edges.{edge_need, demanders}
use Rattle.mrp_grouping.specs.Groups.{group}
use Rattle.mrp_net.specs.Lanes.{taken_over, item_of_source, customer_of, supplier_of}
use Rattle.mrp_net.specs.LaneLaws.{is_same_item, OneSourceBringsAnItem, LaneItemsStandOnce}
use Rattle.mrp_net.specs.PlanLaws.{PlansLookAtDemanders}
use Rattle.mrp_net.specs.RouteLaws.{taken_by, taken_from, over_route, over_plants, RoutesCoverCustomers, RoutesCoverSuppliers, RoutesCoverSources}
use Rattle.mrp_net.specs.Plan.{rows_at, gross}
use Rattle.mrp_net.specs.Sums.{pair_at, no_pair, demand, incoming, terms_at, row_of}
use Rattle.mrp_grouping.proofs.Kept.{sum-sorted_by}
use Rattle.mrp_net.proofs.Sharing.{pairs_are_found}
use Rattle.mrp_grouping.proofs.Sorting.{filter_comm}

-- two filters are one, by both tests
pub filter_both : {X : Type 0} (p q : X → Bool) (xs : List X) → filter (λ x. p x && q x) xs ≡ filter q (filter p xs)
filter_both p q [] = refl
filter_both {X} p q (x ∷ xs) =
    elim (cases_Bool (p x)) as (λ _. filter (λ x. p x && q x) (x ∷ xs) ≡ filter q (filter p (x ∷ xs))) [
      | inl passes ↦
          ap (λ (b : Bool). cond (b && q x) (x ∷ filter (λ x. p x && q x) xs) (filter (λ x. p x && q x) xs)) passes
          ∙ ap (λ (z : List X). cond (q x) (x ∷ z) z) (filter_both p q xs)
          ∙ sym (ap (λ (b : Bool). filter q (cond b (x ∷ filter p xs) (filter p xs))) passes)
      | inr not_p ↦
          ap (λ (b : Bool). cond (b && q x) (x ∷ filter (λ x. p x && q x) xs) (filter (λ x. p x && q x) xs)) not_p
          ∙ filter_both p q xs
          ∙ sym (ap (λ (b : Bool). filter q (cond b (x ∷ filter p xs) (filter p xs))) not_p)
    ]

-- sums term by term
pub sum_by-same : {X : Type 0} (f g : X → ℕ) (xs : List X) → All (λ x. f x ≡ g x) xs → sum_by f xs ≡ sum_by g xs
sum_by-same f g [] same = refl
sum_by-same f g (x ∷ xs) same =
    omega (arith, sum_by-cons f x xs, sum_by-cons g x xs, All-head (λ x. f x ≡ g x) x xs same, sum_by-same f g xs (All-tail (λ x. f x ≡ g x) x xs same))

pub sum-flat_map : {X Y : Type 0} (f : Y → ℕ) (g : X → List Y) (xs : List X) → sum_by f (flat_map g xs) ≡ sum_by (λ x. sum_by f (g x)) xs
sum-flat_map f g [] = refl
sum-flat_map f g (x ∷ xs) =
    omega (arith, sum_by-append f (g x) (flat_map g xs), sum_by-cons (λ x. sum_by f (g x)) x xs, sum-flat_map f g xs)

-- the sum over the groups of a key is the sum over all rows
pub sum_groups : {X : Type 0} (f : X → ℕ) (key : X → ℕ) (n : ℕ) (xs : List X) → All (λ x. key x < n) xs
    → sum_by (λ k. sum_by f (group key k xs)) (range_with_len 0 n) ≡ sum_by f xs
sum_groups f key n xs h = sym (sum-flat_map f (λ k. group key k xs) (range_with_len 0 n)) ∙ sum-sorted_by f key n xs h

-- a source's two plants are plants of the table
customers_within : (N : Table) → IsTable N → All (λ s. (pair_at N s.pair.0).plant.0 < length N.plants) N.sources
customers_within N is = λ k d h. (is.read.pairs (get_or N.sources k d).pair.0 no_pair (is.read.sources k d h).pair).plant

suppliers_within : (N : Table) → IsTable N → All (λ s. s.plant.0 < length N.plants) N.sources
suppliers_within N is = λ k d h. (is.read.sources k d h).plant

over_is_from_customer : (N : Table) (customer supplier : ℕ) → taken_over N customer supplier ≡ group (λ s. s.plant.0) supplier (taken_by N customer)
over_is_from_customer N customer supplier = filter_both (λ s. eqb (pair_at N s.pair.0).plant.0 customer) (λ s. eqb s.plant.0 supplier) N.sources

over_is_from_supplier : (N : Table) (customer supplier : ℕ) → taken_over N customer supplier
    ≡ group (λ s. (pair_at N s.pair.0).plant.0) customer (taken_from N supplier)
over_is_from_supplier N customer supplier =
    over_is_from_customer N customer supplier
    ∙ filter_comm (λ s. eqb s.plant.0 supplier) (λ s. eqb (pair_at N s.pair.0).plant.0 customer) N.sources

pub routes_cover_customers : RoutesCoverCustomers
routes_cover_customers N is amount customer =
    sum_by-same (λ supplier. over_route N amount customer supplier) (λ supplier. sum_by amount (group (λ s. s.plant.0) supplier (taken_by N customer)))
    (range_with_len 0 (length N.plants))
    (λ k d h. ap (sum_by amount) (over_is_from_customer N customer (get_or (range_with_len 0 (length N.plants)) k d)))
    ∙ sum_groups amount (λ s. s.plant.0) (length N.plants) (taken_by N customer)
    (All-filter (λ s. eqb (pair_at N s.pair.0).plant.0 customer) (λ s. s.plant.0 < length N.plants) N.sources (suppliers_within N is))

pub routes_cover_suppliers : RoutesCoverSuppliers
routes_cover_suppliers N is amount supplier =
    sum_by-same (λ customer. over_route N amount customer supplier)
    (λ customer. sum_by amount (group (λ s. (pair_at N s.pair.0).plant.0) customer (taken_from N supplier))) (range_with_len 0 (length N.plants))
    (λ k d h. ap (sum_by amount) (over_is_from_supplier N (get_or (range_with_len 0 (length N.plants)) k d) supplier))
    ∙ sum_groups amount (λ s. (pair_at N s.pair.0).plant.0) (length N.plants) (taken_from N supplier)
    (All-filter (λ s. eqb s.plant.0 supplier) (λ s. (pair_at N s.pair.0).plant.0 < length N.plants) N.sources (customers_within N is))

pub routes_cover_sources : RoutesCoverSources
routes_cover_sources N is amount =
    sum_by-same (λ customer. over_plants N (λ supplier. over_route N amount customer supplier)) (λ customer. sum_by amount (taken_by N customer))
    (range_with_len 0 (length N.plants))
    (λ k d h. routes_cover_customers N is amount (get_or (range_with_len 0 (length N.plants)) k d))
    ∙ sum_groups amount (λ s. (pair_at N s.pair.0).plant.0) (length N.plants) N.sources (customers_within N is)

-- what stands once in a list stands once in what a filter keeps of it
IsDistinct-filter : {X : Type 0} (e : X → X → Bool) (p : X → Bool) (xs : List X) → IsDistinct e xs → IsDistinct e (filter p xs)
IsDistinct-filter e p [] once = once
IsDistinct-filter {X} e p (x ∷ xs) once =
    let apart : AllByRecursion (λ y. e x y ≡ false) xs = IsDistinct-head e x xs once in
    let rest : IsDistinct e (filter p xs) = IsDistinct-filter e p xs (IsDistinct-tail e x xs once) in
    let kept : AllByRecursion (λ y. e x y ≡ false) (filter p xs) =
    recursion_from_All (λ y. e x y ≡ false) (filter p xs) (All-filter p (λ y. e x y ≡ false) xs (All-from_recursion (λ y. e x y ≡ false) xs apart)) in
    elim (cases_Bool (p x)) as (λ _. IsDistinct e (filter p (x ∷ xs))) [
      | inl passes ↦ subst (λ (b : Bool). IsDistinct e (cond b (x ∷ filter p xs) (filter p xs))) (sym passes) (IsDistinct-cons e x (filter p xs) kept rest)
      | inr not_p ↦ subst (λ (b : Bool). IsDistinct e (cond b (x ∷ filter p xs) (filter p xs))) (sym not_p) rest
    ]

-- two sources over a route that bring the same item are one
same_over_route : (N : Table) → IsTable N → (customer supplier : ℕ) (s r : SourceRow) → IsPair N s.pair.0 → IsPair N r.pair.0
    → (eqb (pair_at N s.pair.0).plant.0 customer && eqb s.plant.0 supplier) ≡ true
    → (eqb (pair_at N r.pair.0).plant.0 customer && eqb r.plant.0 supplier) ≡ true
    → is_same_item (item_of_source N s) (item_of_source N r) ≡ true → is_same_source s r ≡ true
same_over_route N is customer supplier s r in_s in_r over_s over_r same =
    let of_s = and_parts (eqb (pair_at N s.pair.0).plant.0 customer) (eqb s.plant.0 supplier) over_s in
    let of_r = and_parts (eqb (pair_at N r.pair.0).plant.0 customer) (eqb r.plant.0 supplier) over_r in
    let plants : (pair_at N s.pair.0).plant.0 ≡ (pair_at N r.pair.0).plant.0 =
    eqb-true (pair_at N s.pair.0).plant.0 customer of_s.0 ∙ sym (eqb-true (pair_at N r.pair.0).plant.0 customer of_r.0) in
    let items : (pair_at N s.pair.0).item.0 ≡ (pair_at N r.pair.0).item.0 = eqb-true (item_of_source N s).0 (item_of_source N r).0 same in
    let pairs : s.pair.0 ≡ r.pair.0 =
    sym (pairs_are_found N is s.pair.0 in_s)
    ∙ ap (λ (z : ℕ). pair_no N z (pair_at N s.pair.0).item.0) plants
    ∙ ap (λ (z : ℕ). pair_no N (pair_at N r.pair.0).plant.0 z) items
    ∙ pairs_are_found N is r.pair.0 in_r in
    and_from (eqb s.plant.0 r.plant.0) (eqb s.pair.0 r.pair.0)
    (eq-eqb s.plant.0 r.plant.0 (eqb-true s.plant.0 supplier of_s.1 ∙ sym (eqb-true r.plant.0 supplier of_r.1)))
    (eq-eqb s.pair.0 r.pair.0 pairs)

no_source : SourceRow
no_source = record { pair = record { 0 = 0 }; plant = record { 0 = 0 }; low = 0; high = 0 }

items_apart : (N : Table) → IsTable N → (customer supplier i j : ℕ) → i < j → j < length (taken_over N customer supplier)
    → is_same_item (item_of_source N (get_or (taken_over N customer supplier) i no_source))
    (item_of_source N (get_or (taken_over N customer supplier) j no_source)) ≡ false
items_apart N is customer supplier i j before within =
    let test = λ (s : SourceRow). eqb (pair_at N s.pair.0).plant.0 customer && eqb s.plant.0 supplier in
    let over : List SourceRow = taken_over N customer supplier in
    let s : SourceRow = get_or over i no_source in
    let r : SourceRow = get_or over j no_source in
    let rows : All (IsSourceRow N) over = All-filter test (IsSourceRow N) N.sources is.read.sources in
    let pass : All (λ s. test s ≡ true) over = filter_passes test N.sources in
    let earlier : i < length over = omega arith in
    let apart : is_same_source s r ≡ false = apart_from_distinct is_same_source over i j no_source
    (IsDistinct-filter is_same_source test N.sources is.once.sources) before within in
    false_from_ne_true (is_same_item (item_of_source N s) (item_of_source N r))
    (λ same. true≢false (sym (same_over_route N is customer supplier s r (rows i no_source earlier).pair (rows j no_source within).pair
    (pass i no_source earlier) (pass j no_source within) same) ∙ apart))

pub one_source_brings_an_item : OneSourceBringsAnItem
one_source_brings_an_item N is customer supplier =
    let over : List SourceRow = taken_over N customer supplier in
    IsDistinct-from_apart is_same_item (map (item_of_source N) over)
    (λ i j d before within.
    let short : j < length over = omega (arith, within, length-map over (item_of_source N)) in
    let first : get_or (map (item_of_source N) over) i d ≡ item_of_source N (get_or over i no_source) =
    get_or-map (item_of_source N) over i no_source d (omega (arith, before, short)) in
    let second : get_or (map (item_of_source N) over) j d ≡ item_of_source N (get_or over j no_source) =
    get_or-map (item_of_source N) over j no_source d short in
    ap (λ (z : ItemNo). is_same_item z (get_or (map (item_of_source N) over) j d)) first
    ∙ ap (λ (z : ItemNo). is_same_item (item_of_source N (get_or over i no_source)) z) second
    ∙ items_apart N is customer supplier i j before short)

pub lane_items_stand_once : LaneItemsStandOnce
lane_items_stand_once N is lane = one_source_brings_an_item N is (customer_of lane) (supplier_of lane)

-- two rows of the same amounts
map_same : {X Y : Type 0} (f g : X → Y) (xs : List X) → ((x : X) → f x ≡ g x) → map f xs ≡ map g xs
map_same f g [] same = refl
map_same {X} {Y} f g (x ∷ xs) same = ap (λ (z : Y). z ∷ map f xs) (same x) ∙ ap (λ (z : List Y). g x ∷ z) (map_same f g xs same)

pub plans_look_at_demanders : PlansLookAtDemanders
plans_look_at_demanders N a b x same =
    let asks = λ (t : ℕ). sum_by-same (λ (e : Edge). edge_need N e t (slice_index (rows_at a e.demander.0).release t))
    (λ (e : Edge). edge_need N e t (slice_index (rows_at b e.demander.0).release t)) (demanders N x)
    (λ k d h. ap (λ (r : List ℕ). edge_need N (get_or (demanders N x) k d) t (slice_index r t)) (same k d h)) in
    ap (λ (row : List ℕ). one (planned (terms_at N x) (row_of N (incoming N x)) row))
    (map_same (gross N a x) (gross N b x) (range_with_len 0 (horizon N)) (λ t. ap (λ (s : ℕ). demand N x t + s) (asks t)))
