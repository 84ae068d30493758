-- The network: the parts of a release over a pair's sources make the release, and pairs stand once.
use Rattle.std.proofs.Common.{◌≡◌, ℕ, suc, zero, ◌+◌, ◌-◌, ◌*◌, ◌/◌, ◌≤◌, ◌&&◌, true, eqb, List, [], ◌∷◌, ◌++◌, inl, inr, length, get_or, map, refl, sym}
use Rattle.std.proofs.Common.{ap, ◌∙◌, subst, arith}
use Rattle.std.specs.List.{All, filter, sum_by, position_or_len}
use Rattle.std.specs.Option.{unwrap_or, option_map}
use Rattle.std.proofs.lemmas.Bool.{cases_order, eq-eqb, ne_eqb, and_from, true≢false}
use Rattle.std.proofs.lemmas.List.Elements.{All-head, All-tail, All-filter, filter-append}
use Rattle.std.proofs.lemmas.List.Sums.{sum_by-cons, passes_at_first, fails_before_first}
use Rattle.std.proofs.lemmas.Map.Keys.{apart_from_distinct}
use Rattle.std.proofs.lemmas.Nat.{le-div}
use Rattle.std.proofs.lemmas.Option.{slice_get-get_or}
use Rattle.std.proofs.Math.Nat.{div-mul-le_self, mul-div_cancel, mul-le-mul_left}
use Rattle.mrp_master_data.specs.declared.rows.BillRow.{BillRow}
use Rattle.mrp_master_data.specs.declared.rows.PairRow.{PairRow}
use Rattle.mrp_master_data.specs.declared.rows.SourceRow.{SourceRow}
use Rattle.mrp_master_data.specs.declared.rows.Supply.{Supply}
use Rattle.mrp_master_data.specs.declared.rows.Supply.TheVariants.{Make, Buy, From}
use Rattle.mrp_master_data.specs.Table.{Table, IsTable, IsPair, IsSourceRow, AreShares, HasSupply, is_same_pair, sources_of_pair, supply_at}
use Rattle.mrp_net.specs.declared.edge.Edge.{Edge}
use Rattle.mrp_net.specs.Edges.{part, bill_edge, source_edge, edges}
use Rattle.mrp_grouping.specs.Groups.{sorted_by}
use Rattle.mrp_net.specs.SupplyLaws.{PartsAreWhole, OthersHaveNoSources, OthersHaveComponents, BoughtHaveNoEdges, PairsAreFound}
use Rattle.mrp_net.specs.Sums.{pair_at, no_pair}
use Rattle.mrp_grouping.proofs.Grouping.{sorted_by-suc}
use Rattle.mrp_net.proofs.Naming.{unwrap_or-position}
use Rattle.mrp_net.proofs.Routing.{filter-map}
use Rattle.mrp_grouping.proofs.Sorting.{filter_none}

-- a running share of a release rises with the share, and the whole share is the release
share-le : (release low high : ℕ) → low ≤ high → release * low / 1000 ≤ release * high / 1000
share-le release low high h =
    le-div (release * low / 1000) (release * high) 1000 (omega arith) (omega (arith, div-mul-le_self (release * low) 1000, mul-le-mul_left release h))

pub share-whole : (release : ℕ) → release * 1000 / 1000 ≡ release
share-whole release = mul-div_cancel release (omega arith)

-- what sources whose shares go from `low` to the whole ask of a release
rest_of_shares : (N : Table) (release low : ℕ) (ss : List SourceRow) → AreShares low ss → All (IsSourceRow N) ss → low ≤ 1000
    → sum_by (λ s. part (source_edge N s) release) ss + release * low / 1000 ≡ release
unfolding AreShares
rest_of_shares N release low [] shares rows small = ap (λ (z : ℕ). 0 + release * z / 1000) shares ∙ omega (arith, share-whole release)
rest_of_shares N release low (s ∷ ss) shares rows small =
    let row = All-head (IsSourceRow N) s ss rows in
    let rest = rest_of_shares N release s.high ss shares.1 (All-tail (IsSourceRow N) s ss rows) row.ends in
    let up : release * low / 1000 ≤ release * s.high / 1000 = share-le release low s.high (omega (arith, shares.0, row.rises)) in
    let here : part (source_edge N s) release ≡ release * s.high / 1000 - release * low / 1000 =
    ap (λ (z : ℕ). release * s.high / 1000 - release * z / 1000) shares.0 in
    omega (arith, sum_by-cons (λ s. part (source_edge N s) release) s ss, here, rest, up)

pub zero_share : (release : ℕ) → release * 0 / 1000 ≡ 0
zero_share release = omega arith

-- the supply of a pair
pub supply_is : (N : Table) (x : ℕ) → IsPair N x → supply_at N x ≡ (pair_at N x).supply
supply_is N x h = ap (λ o. unwrap_or (option_map (λ (p : PairRow). p.supply) o) Buy) (slice_get-get_or N.pairs x no_pair h)

shares_of : (N : Table) (x : ℕ) → IsTable N → IsPair N x → (pair_at N x).supply ≡ From → AreShares 0 (sources_of_pair N x)
shares_of N x table h from = subst (λ (z : Supply). HasSupply z (sources_of_pair N x)) (supply_is N x h ∙ from) (table.sourced.supplies x h)

pub parts_are_whole : PartsAreWhole
parts_are_whole N table x h from release =
    omega (
      arith,
      zero_share release,
      rest_of_shares N release 0 (sources_of_pair N x) (shares_of N x table h from)
          (All-filter (λ s. eqb s.pair.0 x) (IsSourceRow N) N.sources table.read.sources) (omega arith),
    )

-- the edges from a pair are those of its components and those of its sources
pub made_is : (s : Supply) → s ≡ Make → s ≡ From → ⊥
made_is s make from = cc

bought_is : (s : Supply) → s ≡ Buy → s ≡ From → ⊥
bought_is s buy from = cc

bought_is_not_made : (s : Supply) → s ≡ Buy → s ≡ Make → ⊥
bought_is_not_made s buy make = cc

pub edges_of : (N : Table) (x : ℕ) → filter (λ e. eqb e.demander.0 x) (edges N) ≡ map bill_edge (filter (λ b. eqb b.parent.0 x) N.bills)
    ++ map (source_edge N) (sources_of_pair N x)
edges_of N x =
    filter-append (λ e. eqb e.demander.0 x) (map bill_edge N.bills) (map (source_edge N) N.sources)
    ∙ ap (λ (z : List Edge). z ++ filter (λ e. eqb e.demander.0 x) (map (source_edge N) N.sources)) (filter-map (λ e. eqb e.demander.0 x) bill_edge N.bills)
    ∙ ap (λ (z : List Edge). map bill_edge (filter (λ b. eqb b.parent.0 x) N.bills) ++ z) (filter-map (λ e. eqb e.demander.0 x) (source_edge N) N.sources)

-- a pair that isn't made has no components
pub no_components : (N : Table) (x : ℕ) → IsTable N → (supply_at N x ≡ Make → ⊥) → filter (λ b. eqb b.parent.0 x) N.bills ≡ []
no_components N x table other =
    filter_none (λ b. eqb b.parent.0 x) N.bills
    (λ k d h. ne_eqb (get_or N.bills k d).parent.0 x (λ e. other (ap (supply_at N) (sym e) ∙ table.sourced.parents k d h)))

pub sum_map : {X Y : Type 0} (f : Y → ℕ) (g : X → Y) (xs : List X) → sum_by f (map g xs) ≡ sum_by (λ x. f (g x)) xs
sum_map f g [] = refl
sum_map f g (x ∷ xs) = omega (arith, sum_by-cons f (g x) (map g xs), sum_by-cons (λ x. f (g x)) x xs, sum_map f g xs)

-- a pair that isn't taken from plants has no sources
no_sources : (s : Supply) (ss : List SourceRow) → HasSupply s ss → (s ≡ From → ⊥) → ss ≡ []
no_sources From ss has other = absurd (other refl)
no_sources Make ss has other = has
no_sources Buy ss has other = has

pub others_have_no_sources : OthersHaveNoSources
others_have_no_sources N table x h other =
    no_sources (supply_at N x) (sources_of_pair N x) (table.sourced.supplies x h) (λ e. other (sym (supply_is N x h) ∙ e))

append_none : {X : Type 0} (xs ys : List X) → ys ≡ [] → xs ++ ys ≡ xs
append_none {X} [] ys e = e
append_none {X} (x ∷ xs) ys e = ap (λ (z : List X). x ∷ z) (append_none xs ys e)

pub others_have_components : OthersHaveComponents
others_have_components N table x h other =
    ap (sorted_by (λ e. e.pair.0) (length N.pairs))
    (edges_of N x ∙ append_none (map bill_edge (filter (λ b. eqb b.parent.0 x) N.bills)) (map (source_edge N) (sources_of_pair N x))
    (ap (map (source_edge N)) (others_have_no_sources N table x h other)))

pub sorted_none : {X : Type 0} (key : X → ℕ) (n : ℕ) → sorted_by key n [] ≡ []
sorted_none key zero = refl
sorted_none {X} key (suc n) = sorted_by-suc key n [] ∙ ap (λ (z : List X). z ++ []) (sorted_none key n)

pub bought_have_no_edges : BoughtHaveNoEdges
bought_have_no_edges N table x h buy =
    others_have_components N table x h (bought_is (pair_at N x).supply buy)
    ∙ ap (λ (z : List BillRow). sorted_by (λ e. e.pair.0) (length N.pairs) (map bill_edge z))
    (no_components N x table (bought_is_not_made (supply_at N x) (supply_is N x h ∙ buy)))
    ∙ sorted_none (λ (e : Edge). e.pair.0) (length N.pairs)

-- a pair stands once
pub pairs_are_found : PairsAreFound
pairs_are_found N table x h =
    let row : PairRow = pair_at N x in
    let test = λ (p : PairRow). eqb p.plant.0 row.plant.0 && eqb p.item.0 row.item.0 in
    let n : ℕ = position_or_len test N.pairs in
    let passes : test row ≡ true = and_from (eqb row.plant.0 row.plant.0) (eqb row.item.0 row.item.0) (eq-eqb row.plant.0 row.plant.0 refl)
    (eq-eqb row.item.0 row.item.0 refl) in
    unwrap_or-position test N.pairs
    ∙ elim (cases_order n x) as (λ _. n ≡ x) [
      | inl e ↦ e
      | inr (inl lt) ↦
          let first : test (pair_at N n) ≡ true = passes_at_first test N.pairs no_pair (omega (arith, lt, h)) in
          absurd (true≢false (sym first ∙ apart_from_distinct is_same_pair N.pairs n x no_pair table.once.pairs lt h))
      | inr (inr gt) ↦ absurd (true≢false (sym passes ∙ fails_before_first test N.pairs x no_pair gt))
    ]
