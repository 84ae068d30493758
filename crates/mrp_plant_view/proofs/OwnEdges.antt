-- The view of one plant: its edges, in order, and each pair's are those of the component rows.
use Rattle.std.proofs.Common.{◌≡◌, ℕ, zero, suc, ◌+◌, ◌<◌, ◌≤◌, Bool, true, false, cond, eqb, List, [], ◌∷◌, ◌++◌, inl, inr, length, get_or, map, refl}
use Rattle.std.proofs.Common.{sym, ap, ◌∙◌, arith}
use Rattle.std.specs.List.{All, AllPairs, count_by, filter, flat_map, range_with_len, sum_by}
use Rattle.std.specs.List.Sorted.{IsNonDecreasingBy}
use Rattle.std.proofs.lemmas.Bool.{cases_Bool, cases_eq, cases_lt, eq-eqb, ne_eqb}
use Rattle.std.proofs.lemmas.List.{append-nil}
use Rattle.std.proofs.lemmas.List.Elements.{All-head, All-tail, All-filter, All-map, Contains-get_or, filter-append}
use Rattle.std.proofs.lemmas.List.Folds.{flat_map-map}
use Rattle.std.proofs.lemmas.List.Kept.{AllPairs-cons, AllPairs-filter}
use Rattle.std.proofs.lemmas.List.Sums.{sum_by-cons, sum_by-append}
use Rattle.mrp_netting.specs.PlanRows.{PlanRows}
use Rattle.mrp_master_data.specs.declared.rows.BillRow.{BillRow}
use Rattle.mrp_master_data.specs.declared.rows.UsageRow.{UsageRow}
use Rattle.mrp_master_data.specs.Table.{Table}
use Rattle.mrp_net.specs.declared.edge.Edge.{Edge}
use Rattle.mrp_plant_view.specs.declared.view.PlantEdge.{PlantEdge}
use Rattle.mrp_plant_view.specs.declared.view.PlantPair.{PlantPair}
use Rattle.mrp_net.specs.Edges.{bill_edge, source_edge, edges, demanders}
use Rattle.mrp_net.specs.EdgeLaws.{is_local}
use Rattle.mrp_net.specs.PlanLaws.{asked_by_bill}
use Rattle.mrp_net.specs.Plan.{release_at}
use Rattle.mrp_net.specs.Sums.{pair_at}
use Rattle.mrp_net.specs.Usages.{pieces_for, usage_in, usages_to}
use Rattle.mrp_plant_view.specs.View.{NumbersRise, is_of_plant, plant_pair, plant_pairs, plant_edge, edges_to, plant_edges}
use Rattle.mrp_plant_view.specs.Laws.{asked_by_parent, ViewsHaveParents, ViewsHaveBills}
use Rattle.mrp_net.proofs.Covering.{sum_by-same}
use Rattle.mrp_net.proofs.Joining.{edges_join}
use Rattle.mrp_net.proofs.Local.{bill_edge_is_local, source_edges_cross}
use Rattle.mrp_net.proofs.Members.{In, In-from_contains, In-filter, In-range, range_only}
use Rattle.mrp_plant_view.proofs.Once.{one, none, count-filter, count_range}
use Rattle.mrp_net.proofs.Pieces.{AllPairs-append, AllPairs-map}
use Rattle.mrp_plant_view.proofs.Seeing.{All-flat_map, demanders_take}
use Rattle.mrp_grouping.proofs.Kept.{sum-sorted_by, sum_filter}
use Rattle.mrp_net.proofs.Sharing.{sum_map}
use Rattle.mrp_grouping.proofs.Sorting.{filter_none, filter_whole}

-- the plant's pairs
abbrev own : Table → ℕ → List ℕ
own N plant = filter (is_of_plant N plant) (range_with_len 0 (length N.pairs))

-- ---- their order

pub range_rises : (a n : ℕ) → AllPairs (λ x y. x < y) (range_with_len a n)
range_rises a zero = λ i j d low lt. absurd (omega arith)
range_rises a (suc n) =
    let rest : List ℕ = range_with_len (a + 1) n in
    AllPairs-cons (λ x y. x < y) a rest
    (λ k d h. let within = range_only (a + 1) n (get_or rest k d) (In-from_contains rest (get_or rest k d) (Contains-get_or rest k d h))
    in omega (arith, within.0))
    (range_rises (a + 1) n)

pub numbers_rise : (N : Table) (plant : ℕ) → NumbersRise (plant_pairs N plant)
numbers_rise N plant =
    AllPairs-map (λ (p q : PlantPair). p.number.0 < q.number.0) (plant_pair N) (own N plant)
    (AllPairs-filter (λ x y. x < y) (is_of_plant N plant) (range_with_len 0 (length N.pairs)) (range_rises 0 (length N.pairs)))

pieces_rise : {X Y : Type 0} (key : Y → ℕ) (rank : X → ℕ) (f : X → List Y) (xs : List X) → AllPairs (λ a b. rank a < rank b) xs
    → All (λ x. All (λ y. key y ≡ rank x) (f x)) xs → AllPairs (λ u v. key u ≤ key v) (flat_map f xs)
pieces_rise key rank f [] rises keys = λ i j d low lt. absurd (omega arith)
pieces_rise {X} {Y} key rank f (x ∷ xs) rises keys =
    let rest : List Y = flat_map f xs in
    let here : All (λ y. key y ≡ rank x) (f x) = All-head (λ x. All (λ y. key y ≡ rank x) (f x)) x xs keys in
    let later : All (λ x. All (λ y. key y ≡ rank x) (f x)) xs = All-tail (λ x. All (λ y. key y ≡ rank x) (f x)) x xs keys in
    let above : All (λ y. rank x < key y) rest = All-flat_map (λ y. rank x < key y) f xs
    (λ k d h i e lt. let low : rank x < rank (get_or xs k d) = rises 0 (suc k) d (omega arith) (omega arith) in omega (arith, later k d h i e lt)) in
    AllPairs-append (λ u v. key u ≤ key v) (f x) rest
    (λ i j d low lt. omega (arith, here i d (omega arith), here j d lt))
    (pieces_rise key rank f xs (λ i j d low lt. rises (suc i) (suc j) d (omega arith) (omega arith)) later)
    (λ i d lt j e within. omega (arith, here i d lt, above j e within))

pub never_falls : {Y : Type 0} (key : Y → ℕ) (ys : List Y) → AllPairs (λ u v. key u ≤ key v) ys → IsNonDecreasingBy key ys
never_falls key ys pairs i j d le lt =
    elim (cases_lt i j) as (λ _. key (get_or ys i d) ≤ key (get_or ys j d)) [
      | inl before ↦ pairs i j d before lt
      | inr same ↦ let e : i ≡ j = omega arith in omega (arith, ap (λ (z : ℕ). key (get_or ys z d)) e)
    ]

components : (N : Table) (x : ℕ) → All (λ e. e.component.0 ≡ x) (edges_to N x)
components N x =
    All-map (λ (e : PlantEdge). e.component.0 ≡ x) plant_edge (filter (is_local N) (demanders N x))
    (All-filter (is_local N) (λ e. e.pair.0 ≡ x) (demanders N x) (demanders_take N x))

pub by_component : (N : Table) (plant : ℕ) → IsNonDecreasingBy (λ e. e.component.0) (plant_edges N plant)
by_component N plant =
    never_falls (λ (e : PlantEdge). e.component.0) (plant_edges N plant)
    (pieces_rise (λ (e : PlantEdge). e.component.0) (λ (p : PlantPair). p.number.0) (λ p. edges_to N p.number.0) (plant_pairs N plant) (numbers_rise N plant)
    (λ k d h. components N (get_or (plant_pairs N plant) k d).number.0))

-- ---- those of one pair

filter-flat_map : {X Y : Type 0} (p : Y → Bool) (f : X → List Y) (xs : List X) → filter p (flat_map f xs) ≡ flat_map (λ x. filter p (f x)) xs
filter-flat_map p f [] = refl
filter-flat_map {X} {Y} p f (x ∷ xs) = filter-append p (f x) (flat_map f xs) ∙ ap (λ (z : List Y). filter p (f x) ++ z) (filter-flat_map p f xs)

-- a number that stands nowhere, and one that stands once
no_piece : {Y : Type 0} (g : ℕ → List Y) (x : ℕ) (xs : List ℕ) → ((y : ℕ) → eqb y x ≡ false → g y ≡ []) → count_by (λ y. eqb y x) xs ≡ 0 → flat_map g xs ≡ []
no_piece g x [] others h = refl
no_piece {Y} g x (y ∷ ys) others h =
    let here = sum_by-cons (λ y. cond (eqb y x) 1 0) y ys in
    elim (cases_Bool (eqb y x)) as (λ _. flat_map g (y ∷ ys) ≡ []) [
      | inl same ↦ absurd (omega (arith, here, one (eqb y x) same, h))
      | inr other ↦ ap (λ (z : List Y). z ++ flat_map g ys) (others y other) ∙ no_piece g x ys others (omega (arith, here, h))
    ]

one_piece : {Y : Type 0} (g : ℕ → List Y) (x : ℕ) (xs : List ℕ) → ((y : ℕ) → eqb y x ≡ false → g y ≡ []) → count_by (λ y. eqb y x) xs ≤ 1 → In xs x
    → flat_map g xs ≡ g x
one_piece g x [] others h there = absurd there
one_piece {Y} g x (y ∷ ys) others h there =
    let here = sum_by-cons (λ y. cond (eqb y x) 1 0) y ys in
    elim (cases_eq y x) as (λ _. flat_map g (y ∷ ys) ≡ g x) [
      | inl e ↦
          let rest : flat_map g ys ≡ [] = no_piece g x ys others (omega (arith, here, one (eqb y x) (eq-eqb y x e), h)) in
          ap (λ (z : List Y). g y ++ z) rest ∙ append-nil (g y) ∙ ap g e
      | inr ne ↦
          let other : eqb y x ≡ false = ne_eqb y x ne in
          let later : In ys x = elim there as (λ _. In ys x) [ inl e ↦ absurd (ne e) | inr r ↦ r ] in
          ap (λ (z : List Y). z ++ flat_map g ys) (others y other) ∙ one_piece g x ys others (omega (arith, here, none (eqb y x) other, h)) later
    ]

pub views_have_parents : ViewsHaveParents
views_have_parents N plant x pair of_plant =
    let of_x = λ (e : PlantEdge). eqb e.component.0 x in
    let kept : ℕ → List PlantEdge = λ y. filter of_x (edges_to N y) in
    let others : (y : ℕ) → eqb y x ≡ false → kept y ≡ [] = λ y other. filter_none of_x (edges_to N y) (λ k d h. ap (λ (z : ℕ). eqb z x) (components N y k d h)
    ∙ other) in
    let whole : kept x ≡ edges_to N x = filter_whole of_x (edges_to N x) (λ k d h. eq-eqb (get_or (edges_to N x) k d).component.0 x (components N x k d h)) in
    let few : count_by (λ y. eqb y x) (own N plant) ≤ 1 = omega (
      arith,
      count-filter (λ y. eqb y x) (is_of_plant N plant)
          (range_with_len 0 (length N.pairs)),
      count_range 0 (length N.pairs) x,
    ) in
    let there : In (own N plant) x = In-filter (is_of_plant N plant) (range_with_len 0 (length N.pairs)) x
    (In-range 0 (length N.pairs) x (omega arith) (omega arith)) (eq-eqb (pair_at N x).plant.0 plant of_plant) in
    filter-flat_map of_x (λ (p : PlantPair). edges_to N p.number.0) (plant_pairs N plant)
    ∙ flat_map-map (λ (p : PlantPair). kept p.number.0) (plant_pair N) (own N plant)
    ∙ one_piece kept x (own N plant) others few there
    ∙ whole

-- ---- and what they ask

-- what a parent within the plant asks by an edge
abbrev asks : List UsageRow → List PlanRows → ℕ → Edge → ℕ
asks us table t e = pieces_for (usage_in us e.demander.0 e.per t) (release_at table e.demander.0 t)

abbrev asks_within : Table → List UsageRow → List PlanRows → ℕ → Edge → ℕ
asks_within N us table t e = cond (is_local N e) (asks us table t e) 0

abbrev asks_of : Table → List PlanRows → ℕ → ℕ → Edge → ℕ
asks_of N table x t e = cond (eqb e.pair.0 x) (asks_within N (usages_to N x) table t e) 0

nothing : (b : Bool) → ◌≡◌ {A = ℕ} (cond b 0 0) 0
nothing true = refl
nothing false = refl

sum_zero : {X : Type 0} (f : X → ℕ) (xs : List X) → All (λ x. f x ≡ 0) xs → sum_by f xs ≡ 0
sum_zero f [] h = refl
sum_zero f (x ∷ xs) h = omega (arith, sum_by-cons f x xs, All-head (λ x. f x ≡ 0) x xs h, sum_zero f xs (All-tail (λ x. f x ≡ 0) x xs h))

pub views_have_bills : ViewsHaveBills
views_have_bills N is plant x pair of_plant table t =
    let us : List UsageRow = usages_to N x in
    let bills : sum_by (asks_of N table x t) (map bill_edge N.bills) ≡ sum_by (asked_by_bill N table x t) N.bills =
    sum_map (asks_of N table x t) bill_edge N.bills
    ∙ sum_by-same (λ b. asks_of N table x t (bill_edge b)) (asked_by_bill N table x t) N.bills
    (λ k d h. let b : BillRow = get_or N.bills k d in
    let row = is.read.bills k d h in
    let local : is_local N (bill_edge b) ≡ true = bill_edge_is_local N b row.parent row.component (is.sourced.plants k d h) in
    ap (λ (z : Bool). cond (eqb b.component.0 x) (cond z (asks us table t (bill_edge b)) 0) 0) local) in
    let sources : sum_by (asks_of N table x t) (map (source_edge N) N.sources) ≡ 0 =
    sum_zero (asks_of N table x t) (map (source_edge N) N.sources)
    (λ k d h. let e : Edge = get_or (map (source_edge N) N.sources) k d in
    ap (λ (z : Bool). cond (eqb e.pair.0 x) (cond z (asks us table t e) 0) 0) (source_edges_cross N is k d h) ∙ nothing (eqb e.pair.0 x)) in
    let all : sum_by (asks_within N us table t) (demanders N x) ≡ sum_by (asks_of N table x t) (edges N) =
    sum-sorted_by (asks_within N us table t) (λ e. e.demander.0) (length N.pairs) (filter (λ e. eqb e.pair.0 x) (edges N))
    (All-filter (λ e. eqb e.pair.0 x) (λ e. e.demander.0 < length N.pairs) (edges N) (λ k d h. (edges_join N is k d h).demander))
    ∙ sum_filter (asks_within N us table t) (λ e. eqb e.pair.0 x) (edges N) in
    sym (sum_filter (asked_by_parent us table t) (λ (e : PlantEdge). eqb e.component.0 x) (plant_edges N plant))
    ∙ ap (sum_by (asked_by_parent us table t)) (views_have_parents N plant x pair of_plant)
    ∙ sum_map (asked_by_parent us table t) plant_edge (filter (is_local N) (demanders N x))
    ∙ sum_filter (asks us table t) (is_local N) (demanders N x)
    ∙ all
    ∙ omega (arith, sum_by-append (asks_of N table x t) (map bill_edge N.bills) (map (source_edge N) N.sources), bills, sources)
