-- The network: its pair of a plant and an item, by its number and by its names.
use Rattle.std.proofs.Common.{◌≡◌, ℕ, ◌<◌, ◌≤◌, ◌&&◌, Bool, true, false, not, eqb, ltb, List, [], inl, inr, length, get_or, Option, Some, None, refl, sym, ap}
use Rattle.std.proofs.Common.{◌∙◌, arith}
use Rattle.std.specs.Option.{unwrap_or, IfSome, IfNone, IsSome, option_map}
use Rattle.std.specs.Prelude.{◌↔◌}
use Rattle.std.specs.List.{Contains, IsDistinct}
use Rattle.mrp_master_data.specs.declared.numbers.ItemNo.{ItemNo}
use Rattle.mrp_master_data.specs.declared.numbers.PairNo.{PairNo}
use Rattle.mrp_master_data.specs.declared.numbers.PlantNo.{PlantNo}
use Rattle.std.specs.List.{position, position_or_len, slice_get}
use Rattle.std.proofs.lemmas.Map.Keys.{apart_from_distinct}
use Rattle.std.proofs.lemmas.Bool.{cases_lt, cases_order, cond_both, ltb-false, eqb-true, eq-eqb, and_parts, and_from, true≢false}
use Rattle.std.proofs.lemmas.List.Sums.{prefix_len-le-length, passes_at_first, fails_before_first}
use Rattle.std.proofs.lemmas.Option.{slice_get_within, slice_get-get_or, get_or_from_slice_get}
use Rattle.std.proofs.lemmas.List.Quantifiers.{position-Some}
use Rattle.std.proofs.lemmas.Slice.Eq.{bytes_eq-Decides}
use Rattle.std.specs.Str.{bytes_eq}
use Rattle.mrp_master_data.specs.declared.rows.PairRow.{PairRow}
use Rattle.mrp_master_data.specs.Table.{Table, IsTable, IsPair, pair_no}
use Rattle.mrp_net.specs.Sums.{pair_at, no_pair}
use Rattle.mrp_net.specs.Names.{IsNamed}

-- the first place that passes, however it is said
pub unwrap_or-position : {X : Type 0} (p : X → Bool) (xs : List X) → unwrap_or (position p xs) (length xs) ≡ position_or_len p xs
unwrap_or-position {X} p xs =
    let n : ℕ = position_or_len p xs in
    let short : n ≤ length xs = prefix_len-le-length (λ x. not (p x)) xs in
    cond_both (ltb n (length xs)) (Some n) None (λ (z : Option ℕ). unwrap_or z (length xs) ≡ n)
    (λ _. refl)
    (λ h. let over : length xs ≤ n = ltb-false n (length xs) h in omega arith)

pub named_from_numbers : (N : Table) (x p i : ℕ) (plant item : List ℕ) → x ≡ pair_no N p i → IsPair N x → slice_get N.plants p ≡ Some plant
    → slice_get N.items i ≡ Some item → IsNamed N x plant item
named_from_numbers N x p i plant item is pair at_plant of_item =
    let test = λ (row : PairRow). eqb row.plant.0 p && eqb row.item.0 i in
    let place : x ≡ position_or_len test N.pairs = is ∙ unwrap_or-position test N.pairs in
    let here = passes_at_first test N.pairs no_pair (omega arith) in
    let parts = and_parts (eqb (pair_at N (position_or_len test N.pairs)).plant.0 p) (eqb (pair_at N (position_or_len test N.pairs)).item.0 i) here in
    let plant_is : (pair_at N x).plant.0 ≡ p = ap (λ (z : ℕ). (pair_at N z).plant.0) place
    ∙ eqb-true (pair_at N (position_or_len test N.pairs)).plant.0 p parts.0 in
    let item_is : (pair_at N x).item.0 ≡ i = ap (λ (z : ℕ). (pair_at N z).item.0) place ∙ eqb-true (pair_at N (position_or_len test N.pairs)).item.0 i parts.1
    in
    record {
      pair = pair;
      at_plant = ap (slice_get N.plants) plant_is ∙ at_plant;
      of_item = ap (slice_get N.items) item_is ∙ of_item;
    }

-- what a look-up by numbers says of the names
pub found_named : (N : Table) (p i : ℕ) (plant item : List ℕ) (found : Option PairNo) → slice_get N.plants p ≡ Some plant → slice_get N.items i ≡ Some item
    → IfSome found (λ x. (x.0 ≡ pair_no N p i) × IsPair N x.0) → IfSome found (λ x. IsNamed N x.0 plant item)
found_named N p i plant item None at_plant of_item h = tt
found_named N p i plant item (Some x) at_plant of_item h = named_from_numbers N x.0 p i plant item h.0 h.1 at_plant of_item

-- the place of a name that a look-up found, and what it says where it found none
pub name_at_place : (names : List (List ℕ)) (name : List ℕ) (i : ℕ) → Some i ≡ position (bytes_eq name) names → slice_get names i ≡ Some name
name_at_place names name i is =
    let at = position-Some (bytes_eq name) names i [] (sym is) in
    slice_get-get_or names i [] at.0 ∙ ap Some (sym ((bytes_eq-Decides name (get_or names i [])).0 at.1))

pub name_nowhere : (names : List (List ℕ)) (name : List ℕ) → None ≡ position (bytes_eq name) names → (i : ℕ) → slice_get names i ≡ Some name → ⊥
name_nowhere names name is i here =
    let within = slice_get_within names i name here in
    let n = position_or_len (bytes_eq name) names in
    let passes : bytes_eq name (get_or names i []) ≡ true = (bytes_eq-Decides name (get_or names i [])).1 (sym (get_or_from_slice_get names i name [] here)) in
    cond_both (ltb n (length names)) (Some n) None (λ (z : Option ℕ). None ≡ z → ⊥)
    (λ h e. cc)
    (λ h e. let over : length names ≤ n = ltb-false n (length names) h in
    true≢false (sym passes ∙ fails_before_first (bytes_eq name) names i [] (omega arith)))
    is

-- a pair that a look-up found
pub found_pair : (N : Table) (p i : ℕ) (found : Option PairNo) → IsSome found ↔ IsPair N (pair_no N p i) → IfSome found (λ x. x.0 ≡ pair_no N p i)
    → IfSome found (λ x. (x.0 ≡ pair_no N p i) × IsPair N x.0)
found_pair N p i None is value = tt
found_pair N p i (Some x) is value =
    let there : pair_no N p i < length N.pairs = is.0 refl in
    (value, omega (arith, value, there))

-- an item that a look-up found, or did not find
pub found_name : (names : List (List ℕ)) (name : List ℕ) (found : Option ItemNo) → option_map (λ i. i.0) found ≡ position (bytes_eq name) names
    → IfSome found (λ i. slice_get names i.0 ≡ Some name)
found_name names name None is = tt
found_name names name (Some i) is = name_at_place names name i.0 is

pub missing_name : (names : List (List ℕ)) (name : List ℕ) (found : Option ItemNo) → option_map (λ i. i.0) found ≡ position (bytes_eq name) names
    → IfNone found (¬ Contains names name)
missing_name names name None is = λ contains. name_nowhere names name is contains.0 (slice_get-get_or names contains.0 name contains.1 ∙ ap Some contains.2)
missing_name names name (Some i) is = tt

-- so too a plant
pub found_plant_name : (names : List (List ℕ)) (name : List ℕ) (found : Option PlantNo) → option_map (λ p. p.0) found ≡ position (bytes_eq name) names
    → IfSome found (λ p. slice_get names p.0 ≡ Some name)
found_plant_name names name None is = tt
found_plant_name names name (Some p) is = name_at_place names name p.0 is

pub missing_plant_name : (names : List (List ℕ)) (name : List ℕ) (found : Option PlantNo) → option_map (λ p. p.0) found ≡ position (bytes_eq name) names
    → IfNone found (¬ Contains names name)
missing_plant_name names name None is = λ contains. name_nowhere names name is contains.0 (slice_get-get_or names contains.0 name contains.1
    ∙ ap Some contains.2)
missing_plant_name names name (Some p) is = tt

-- a name stands at one place
later_name : (names : List (List ℕ)) (i j : ℕ) (name : List ℕ) → IsDistinct bytes_eq names → slice_get names i ≡ Some name → slice_get names j ≡ Some name
    → i < j → ⊥
later_name names i j name once at_i at_j lt =
    let within = slice_get_within names j name at_j in
    let apart = apart_from_distinct bytes_eq names i j [] once lt within in
    let same = (bytes_eq-Decides (get_or names i []) (get_or names j [])).1 (get_or_from_slice_get names i name [] at_i
    ∙ sym (get_or_from_slice_get names j name [] at_j)) in
    true≢false (sym same ∙ apart)

pub same_place : (names : List (List ℕ)) (i j : ℕ) (name : List ℕ) → IsDistinct bytes_eq names → slice_get names i ≡ Some name → slice_get names j ≡ Some name
    → i ≡ j
same_place names i j name once at_i at_j =
    elim (cases_order i j) as (λ _. i ≡ j) [
      | inl e ↦ e
      | inr (inl lt) ↦ absurd (later_name names i j name once at_i at_j lt)
      | inr (inr gt) ↦ absurd (later_name names j i name once at_j at_i gt)
    ]

-- where the names are there and their pair isn't, no pair is named so
none_named : (N : Table) (p i : ℕ) (plant item : List ℕ) → IsTable N → (IsPair N (pair_no N p i) → ⊥) → slice_get N.plants p ≡ Some plant
    → slice_get N.items i ≡ Some item → (x : ℕ) → IsNamed N x plant item → ⊥
none_named N p i plant item table none at_plant of_item x named =
    let test = λ (row : PairRow). eqb row.plant.0 p && eqb row.item.0 i in
    let first : pair_no N p i ≡ position_or_len test N.pairs = unwrap_or-position test N.pairs in
    let past : x < pair_no N p i =
    elim (cases_lt (pair_no N p i) (length N.pairs)) as (λ _. x < pair_no N p i) [
      | inl lt ↦ absurd (none lt)
      | inr ge ↦ omega (arith, ge, named.pair)
    ] in
    let fails : test (pair_at N x) ≡ false = fails_before_first test N.pairs x no_pair (omega (arith, past, first)) in
    let plant_is = same_place N.plants (pair_at N x).plant.0 p plant table.once.plants named.at_plant at_plant in
    let item_is = same_place N.items (pair_at N x).item.0 i item table.once.items named.of_item of_item in
    true≢false (sym (and_from (eqb (pair_at N x).plant.0 p) (eqb (pair_at N x).item.0 i) (eq-eqb (pair_at N x).plant.0 p plant_is)
    (eq-eqb (pair_at N x).item.0 i item_is)) ∙ fails)

pub missing_pair : (N : Table) (p i : ℕ) (plant item : List ℕ) (found : Option PairNo) → IsTable N → IsSome found ↔ IsPair N (pair_no N p i)
    → slice_get N.plants p ≡ Some plant → slice_get N.items i ≡ Some item → IfNone found ((x : ℕ) → ¬ (IsNamed N x plant item))
missing_pair N p i plant item None table is at_plant of_item = none_named N p i plant item table (λ h. true≢false (sym (is.1 h))) at_plant of_item
missing_pair N p i plant item (Some x) table is at_plant of_item = tt

-- the answer where a name isn't there
pub no_plant : (N : Table) (plant item : List ℕ) (found : Option PairNo) → None ≡ position (bytes_eq plant) N.plants
    → IfNone found ((x : ℕ) → ¬ (IsNamed N x plant item))
no_plant N plant item None is = λ x named. name_nowhere N.plants plant is (pair_at N x).plant.0 named.at_plant
no_plant N plant item (Some x) is = tt

pub no_item : (N : Table) (plant item : List ℕ) (found : Option PairNo) → None ≡ position (bytes_eq item) N.items
    → IfNone found ((x : ℕ) → ¬ (IsNamed N x plant item))
no_item N plant item None is = λ x named. name_nowhere N.items item is (pair_at N x).item.0 named.of_item
no_item N plant item (Some x) is = tt
