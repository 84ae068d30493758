-- A valid pair row more, with its item and its sources.
use Rattle.std.proofs.Common.{◌≡◌, ◌≤◌, ◌<◌, ℕ, ◌+◌, ◌*◌, ◌==◌, ◌&&◌, ◌||◌, Bool, true, false, not, ltb, if◌then◌else◌, get_or, List, [], ◌∷◌, ◌++◌, map}
use Rattle.std.proofs.Common.{length, Option, Some, None, is_some, option_map, position, slice_get, unwrap_or, Ok, refl, ap, sym, ◌∙◌, subst, ⊎_elim, arith}
use Rattle.std.specs.List.{All, IsDistinct, filter, list_all, list_any}
use Rattle.std.specs.Str.{bytes_eq}
use Rattle.std.proofs.lemmas.Bool.{and_left, and_parts, and_right, cases_lt, eq-eqb, ne_eqb, not-true}
use Rattle.std.proofs.lemmas.List.{append-nil, length-append, length-map, length_push}
use Rattle.std.proofs.lemmas.List.Elements.{All-append, All-cons, All-from_recursion, All-head, All-map, All-nil, All-tail, All-weaker, filter-append}
use Rattle.std.proofs.lemmas.List.Elements.{recursion_from_All}
use Rattle.std.proofs.lemmas.List.Folds.{list_any-append, list_any_none}
use Rattle.std.proofs.lemmas.Map.Keys.{IsDistinct-cons, IsDistinct-head, IsDistinct-tail}
use Rattle.std.proofs.lemmas.Slice.Eq.{bytes_eq-Decides}
use Rattle.mrp_master_data.specs.declared.numbers.PlantNo.{PlantNo}
use Rattle.mrp_master_data.specs.declared.rows.PairRow.{PairRow}
use Rattle.mrp_master_data.specs.declared.rows.SourceRow.{SourceRow}
use Rattle.mrp_master_data.specs.declared.rows.Supply.{Supply}
use Rattle.mrp_master_data.specs.declared.rows.Supply.TheVariants as supply
use Rattle.mrp_master_data.specs.Supplies.{SourceTerms, SupplyTerms, MakeTerms, BuyTerms, FromTerms}
use Rattle.mrp_master_data.specs.SupplyParsing.{names_plant}
use Rattle.mrp_master_data.specs.Growing.{add_item}
use Rattle.mrp_master_data.specs.Names.{has_plant, pair_named, pair_of_item, plant_no}
use Rattle.mrp_master_data.proofs.Lists.{any_left, slice_get-append, slice_get-push}
use Rattle.mrp_validation.specs.Grammar.{knows_sources, PairTerms, pair_fits, pair_row, pair_terms, pair_with, kind_place, source_row, supply_kind}
use Rattle.mrp_validation.specs.Grammar.{with_pair_terms}
use Rattle.mrp_master_data.specs.SupplyParsing.{is_same_plant, IsShare, IsWholeSupply, named_sources}
use Rattle.mrp_qty.specs.declared.limits.TheConstants.{MOST_SOURCES_OF_PAIR}
use Rattle.mrp_master_data.specs.Table.{Table, HasSupply, is_item_of_pair, IsName, IsRead, IsOnce, IsPair, IsPairRow, IsSourced, IsSourceRow, is_same_pair}
use Rattle.mrp_master_data.specs.Table.{is_same_source, plant_at, sources_of_pair, supply_at}
use Rattle.mrp_validation.specs.declared.kind.Kind.{Kind}
use Rattle.mrp_validation.specs.declared.kind.Kind.TheVariants as kind
use Rattle.mrp_validation.specs.Reading.{IsReadSoFar}
use Rattle.mrp_master_data.proofs.SpelledLists.{All-from_any, distinct_append, distinct_push, IsDistinct-nil}
use Rattle.mrp_master_data.proofs.Keys.{any-from_no_position, any-from_position}
use Rattle.mrp_master_data.proofs.Naming.{distinct_name}
use Rattle.mrp_validation.proofs.KeepingLists.{filter_everything, filter_nothing, names_at, ordered_append, position-from_any, position_last, position_there}
use Rattle.mrp_master_data.proofs.Grow.{Changes, Grows, length-add_item-le, name_added, one_more, read_grows, same_rows}
use Rattle.mrp_validation.proofs.KeepingRead.{lt_test, plant_within}
use Rattle.mrp_validation.proofs.KeepingShares.{named_few, named_shares, pair_terms_are, shares_are, SpellsPair}
use Rattle.mrp_validation.proofs.KeepingSteps.{after, after_check, after_some, same_Ok}
use Rattle.mrp_master_data.specs.Table.{most}
use Rattle.mrp_master_data.proofs.LimitFacts.{sources_are}

-- ---- what a pair row that fits says

all_pass : {X : Type 0} (p : X → Bool) (xs : List X) → list_all p xs ≡ true → All (λ x. p x ≡ true) xs
all_pass p [] e = All-nil (λ x. p x ≡ true)
all_pass p (x ∷ xs) e = let parts = and_parts (p x) (list_all p xs) e in All-cons (λ x. p x ≡ true) x xs parts.0 (all_pass p xs parts.1)

nothing : {X : Type 0} (o : Option X) → not (is_some o) ≡ true → o ≡ None
nothing None e = refl
nothing (Some x) e = absurd (cc)

pub record Fitting (N : Table) (t : PairTerms) (plant : PlantNo) : Type 0 where
  pub new : pair_named N (Some plant.0) t.item ≡ None
  pub at : plant_no N t.plant ≡ Some plant.0
  pub known : All (λ s. has_plant N s.plant ≡ true) (named_sources t.supply)
  pub others : names_plant (named_sources t.supply) t.plant ≡ false
  pub room : length N.pairs < (most N).pairs

pub fits : (N : Table) (t : PairTerms) (plant : PlantNo) → pair_fits N t ≡ Ok plant → Fitting N t plant
unfolding pair_fits
fits N t plant is =
    let a = after_check (not (is_some (pair_named N (plant_no N t.plant) t.item))) _ _ plant is in
    let b = after_some (plant_no N t.plant) _ _ plant a.1 in
    let c = after_check (knows_sources N (named_sources t.supply)) _ _ plant b.2 in
    let d = after_check (not (names_plant (named_sources t.supply) t.plant)) _ _ plant c.1 in
    let e = after_check (ltb (length N.pairs) (most N).pairs) _ _ plant d.1 in
    let same : record { 0 = b.0 } ≡ plant = same_Ok _ plant e.1 in
    let at : plant_no N t.plant ≡ Some plant.0 = b.1 ∙ ap (λ (p : PlantNo). Some p.0) same in
    record {
      new = ap (λ o. pair_named N o t.item) (sym at) ∙ nothing (pair_named N (plant_no N t.plant) t.item) a.0;
      at = at;
      known = all_pass (λ s. has_plant N s.plant) (named_sources t.supply) c.0;
      others = not-true (names_plant (named_sources t.supply) t.plant) d.0;
      room = lt_test (length N.pairs) (most N).pairs e.0;
    }

-- ---- places of names

places_differ : (names : List (List ℕ)) (a b : List ℕ) → bytes_eq a b ≡ false → list_any (bytes_eq a) names ≡ true → list_any (bytes_eq b) names ≡ true
    → (unwrap_or (position (bytes_eq a) names) 0 == unwrap_or (position (bytes_eq b) names) 0) ≡ false
places_differ names a b differ ha hb =
    let i = position-from_any (bytes_eq a) names ha in
    let j = position-from_any (bytes_eq b) names hb in
    ap (λ o. unwrap_or o 0 == unwrap_or (position (bytes_eq b) names) 0) i.1
    ∙ ap (λ o. i.0 == unwrap_or o 0) j.1
    ∙ ne_eqb i.0 j.0 (λ e.
    let same : a ≡ b = names_at names a b i.0 i.1 (j.1 ∙ ap (λ n. Some n) (sym e)) in
    let test : bytes_eq a b ≡ true = (bytes_eq-Decides a b).1 same in
    absurd (cc (sym test ∙ differ)))

-- the place of an item among the items with it
known_item : (items : List (List ℕ)) (name : List ℕ) (i : ℕ) → position (bytes_eq name) items ≡ Some i
    → unwrap_or (position (bytes_eq name) (add_item items name)) 0 ≡ i
known_item items name i e =
    ap (λ b. unwrap_or (position (bytes_eq name) (if b then items else items ++ name ∷ [])) 0) (any-from_position (bytes_eq name) items i e)
    ∙ ap (λ o. unwrap_or o 0) e

new_item : (items : List (List ℕ)) (name : List ℕ) → position (bytes_eq name) items ≡ None
    → unwrap_or (position (bytes_eq name) (add_item items name)) 0 ≡ length items
new_item items name e =
    ap (λ b. unwrap_or (position (bytes_eq name) (if b then items else items ++ name ∷ [])) 0) (any-from_no_position (bytes_eq name) items e)
    ∙ ap (λ o. unwrap_or o 0) (position_last (bytes_eq name) items name e ((bytes_eq-Decides name name).1 refl))

distinct_items : (items : List (List ℕ)) (name : List ℕ) → IsDistinct bytes_eq items → IsDistinct bytes_eq (add_item items name)
distinct_items items name d = by (list_any (bytes_eq name) items) refl
  where
    by : (b : Bool) → list_any (bytes_eq name) items ≡ b → IsDistinct bytes_eq (if b then items else items ++ name ∷ [])
    by true e = d
    by false e = distinct_name items name d e

-- ---- the items with it

pub item_added : (items : List (List ℕ)) (name : List ℕ) → list_any (bytes_eq name) (add_item items name) ≡ true
item_added items name = by (list_any (bytes_eq name) items) refl
  where
    by : (b : Bool) → list_any (bytes_eq name) items ≡ b → list_any (bytes_eq name) (if b then items else items ++ name ∷ []) ≡ true
    by true e = e
    by false e = list_any-append (bytes_eq name) items (name ∷ []) ∙ rw (e, (bytes_eq-Decides name name).1 refl) refl

-- a name that is there has a place among the names
pub place_within : (names : List (List ℕ)) (name : List ℕ) → list_any (bytes_eq name) names ≡ true → unwrap_or (position (bytes_eq name) names) 0 < length names
place_within names name there =
    let at = position-from_any (bytes_eq name) names there in
    subst (λ (o : Option ℕ). unwrap_or o 0 < length names) (sym at.1) (position_there (bytes_eq name) names at.0 at.1).1

pub no_place : {X : Type 0} (p : X → Bool) (xs : List X) → list_any p xs ≡ false → position p xs ≡ None
no_place p xs none = by (position p xs) refl
  where
    by : (o : Option ℕ) → position p xs ≡ o → o ≡ None
    by None is = refl
    by (Some i) is = absurd (let some = any-from_position p xs i is in cc)

-- an item past those before is the new one
last_item : (items : List (List ℕ)) (name : List ℕ) (i : ℕ) → i < length (add_item items name) → length items ≤ i
    → (i ≡ length items) × (position (bytes_eq name) items ≡ None)
last_item items name i = by (list_any (bytes_eq name) items) refl
  where
    by : (b : Bool) → list_any (bytes_eq name) items ≡ b → i < length (if b then items else items ++ name ∷ []) → length items ≤ i
        → (i ≡ length items) × (position (bytes_eq name) items ≡ None)
    by true e lt le = absurd (omega arith)
    by false e lt le = (omega (arith, length_push items name), no_place (bytes_eq name) items e)

last_hits : (b c : Bool) → c ≡ true → (b || (c || false)) ≡ true
last_hits true c e = refl
last_hits false c e = rw e refl

-- ---- the pair is new

new_pair : (N : Table) (plant : ℕ) (name : List ℕ) → All (λ q. q.item.0 < length N.items) N.pairs → pair_named N (Some plant) name ≡ None
    → list_any (λ q. (q.plant.0 == plant) && (q.item.0 == unwrap_or (position (bytes_eq name) (add_item N.items name)) 0)) N.pairs ≡ false
new_pair N plant name within none = by (position (bytes_eq name) N.items) refl none
  where
    by : (o : Option ℕ) → position (bytes_eq name) N.items ≡ o → pair_of_item N plant o ≡ None
        → list_any (λ q. (q.plant.0 == plant) && (q.item.0 == unwrap_or (position (bytes_eq name) (add_item N.items name)) 0)) N.pairs ≡ false
    by (Some i) e none =
        ap (λ z. list_any (λ q. (q.plant.0 == plant) && (q.item.0 == z)) N.pairs) (known_item N.items name i e)
        ∙ any-from_no_position (λ q. (q.plant.0 == plant) && (q.item.0 == i)) N.pairs none
    by None e none =
        ap (λ z. list_any (λ q. (q.plant.0 == plant) && (q.item.0 == z)) N.pairs) (new_item N.items name e)
        ∙ list_any_none (λ q. (q.plant.0 == plant) && (q.item.0 == length N.items)) N.pairs
        (All-weaker (λ q. q.item.0 < length N.items) (λ q. ((q.plant.0 == plant) && (q.item.0 == length N.items)) ≡ false)
        (λ q lt. and_right (q.plant.0 == plant) (q.item.0 == length N.items) (ne_eqb q.item.0 (length N.items) (λ e. absurd (omega arith)))) N.pairs within)

-- ---- its sources are other plants each

distinct_rows : (N : Table) (x : ℕ) (ss : List SourceTerms) → IsDistinct is_same_plant ss → All (λ s. has_plant N s.plant ≡ true) ss
    → IsDistinct is_same_source (map (source_row N x) ss)
distinct_rows N x [] d known = IsDistinct-nil is_same_source
distinct_rows N x (s ∷ ss) d known =
    let apart = All-from_recursion (λ t. is_same_plant s t ≡ false) ss (IsDistinct-head is_same_plant s ss d) in
    let rest = All-tail (λ s. has_plant N s.plant ≡ true) s ss known in
    let here = All-head (λ s. has_plant N s.plant ≡ true) s ss known in
    let row = source_row N x in
    let rows : All (λ t. is_same_source (row s) (row t) ≡ false) ss =
    λ k e lt. and_left _ _ (places_differ N.plants s.plant _ (apart k e lt) here (rest k e lt)) in
    IsDistinct-cons is_same_source (row s) (map row ss)
    (recursion_from_All (λ y. is_same_source (row s) y ≡ false) (map row ss) (All-map (λ y. is_same_source (row s) y ≡ false) row ss rows))
    (distinct_rows N x ss (IsDistinct-tail is_same_plant s ss d) rest)

named_rows : (N : Table) (x : ℕ) (s : SupplyTerms) → IsWholeSupply s → All (λ s. has_plant N s.plant ≡ true) (named_sources s)
    → IsDistinct is_same_source (map (source_row N x) (named_sources s))
named_rows N x MakeTerms h known = IsDistinct-nil is_same_source
named_rows N x BuyTerms h known = IsDistinct-nil is_same_source
named_rows N x (FromTerms ss) h known = distinct_rows N x ss h.apart known

supply_is : (N : Table) (x : ℕ) (s : SupplyTerms) → IsWholeSupply s → HasSupply (supply_kind s) (map (source_row N x) (named_sources s))
supply_is N x MakeTerms h = refl
supply_is N x BuyTerms h = refl
supply_is N x (FromTerms ss) h = shares_are N x 0 ss h.shares

module _ (N : Table) (plant : PlantNo) (t : PairTerms) (read : IsRead N) (once : IsOnce N) (sourced : IsSourced N) (fit : Fitting N t plant)
    (says : SpellsPair N.limits t) where
  abbrev M : Table
  M = with_pair_terms N plant t

  abbrev new_row : PairRow
  new_row = pair_with (add_item N.items t.item) plant t

  abbrev new_rows : List SourceRow
  new_rows = map (source_row N (length N.pairs)) (named_sources t.supply)

  old_pair : (x : ℕ) → x < length N.pairs → slice_get M.pairs x ≡ slice_get N.pairs x
  old_pair x lt = slice_get-append N.pairs (new_row ∷ []) x lt

  old_supply : (x : ℕ) → x < length N.pairs → supply_at M x ≡ supply_at N x
  old_supply x lt = ap (λ o. unwrap_or (option_map (λ p. p.supply) o) supply.Buy) (old_pair x lt)

  old_plant : (x : ℕ) → x < length N.pairs → plant_at M x ≡ plant_at N x
  old_plant x lt = ap (λ o. unwrap_or (option_map (λ p. p.plant.0) o) 0) (old_pair x lt)

  last_pair : slice_get M.pairs (length N.pairs) ≡ Some new_row
  last_pair = slice_get-push N.pairs new_row

  old_sources : All (λ s. s.pair.0 < length N.pairs) N.sources
  old_sources = λ k d lt. (read.sources k d lt).pair

  new_sources : All (λ s. s.pair.0 ≡ length N.pairs) new_rows
  new_sources = All-map (λ s. s.pair.0 ≡ length N.pairs) (source_row N (length N.pairs)) (named_sources t.supply) (λ k d lt. refl)

  pair_once : IsOnce M
  pair_once = record {
    plants = once.plants;
    items = distinct_items N.items t.item once.items;
    pairs = distinct_push is_same_pair N.pairs new_row once.pairs (new_pair N plant.0 t.item (λ k d lt. (read.pairs k d lt).item) fit.new);
    sources = distinct_append is_same_source N.sources new_rows once.sources (named_rows N (length N.pairs) t.supply says.supply fit.known)
        (All-weaker (λ s. s.pair.0 < length N.pairs) (λ s. All (λ r. is_same_source s r ≡ false) new_rows)
        (λ s lt. All-weaker (λ r. r.pair.0 ≡ length N.pairs) (λ r. is_same_source s r ≡ false)
        (λ r e. and_right (s.plant.0 == r.plant.0) (s.pair.0 == r.pair.0) (ne_eqb s.pair.0 r.pair.0 (λ same. absurd (omega arith)))) new_rows new_sources)
        N.sources old_sources);
    bills = once.bills;
    cums = once.cums;
    resets = once.resets;
    policies = once.policies;
    usages = once.usages;
    vendors = once.vendors;
  }

  pub old_kept : (x : ℕ) → x < length N.pairs → sources_of_pair M x ≡ sources_of_pair N x
  old_kept x lt =
      let p : SourceRow → Bool = λ s. s.pair.0 == x in
      filter-append p N.sources new_rows
      ∙ ap (λ l. filter p N.sources ++ l) (filter_nothing p new_rows
      (All-weaker (λ s. s.pair.0 ≡ length N.pairs) (λ s. (s.pair.0 == x) ≡ false)
      (λ s e. ne_eqb s.pair.0 x (λ same. absurd (omega arith))) new_rows new_sources))
      ∙ append-nil (filter p N.sources)

  pub new_kept : sources_of_pair M (length N.pairs) ≡ new_rows
  new_kept =
      let p : SourceRow → Bool = λ s. s.pair.0 == length N.pairs in
      filter-append p N.sources new_rows
      ∙ ap (λ l. l ++ filter p new_rows) (filter_nothing p N.sources
      (All-weaker (λ s. s.pair.0 < length N.pairs) (λ s. (s.pair.0 == length N.pairs) ≡ false)
      (λ s lt. ne_eqb s.pair.0 (length N.pairs) (λ same. absurd (omega arith))) N.sources old_sources))
      ∙ filter_everything p new_rows
      (All-weaker (λ s. s.pair.0 ≡ length N.pairs) (λ s. (s.pair.0 == length N.pairs) ≡ true) (λ s e. eq-eqb s.pair.0 (length N.pairs) e) new_rows new_sources)

  pair_supplies : (x : ℕ) → IsPair M x → HasSupply (supply_at M x) (sources_of_pair M x)
  pair_supplies x within = ⊎_elim left right (cases_lt x (length N.pairs))
    where
      left : x < length N.pairs → HasSupply (supply_at M x) (sources_of_pair M x)
      left lt =
          subst (λ (s : Supply). HasSupply s (sources_of_pair M x)) (sym (old_supply x lt))
          (subst (λ (l : List SourceRow). HasSupply (supply_at N x) l) (sym (old_kept x lt)) (sourced.supplies x lt))

      right : length N.pairs ≤ x → HasSupply (supply_at M x) (sources_of_pair M x)
      right le =
          let longer : length M.pairs ≡ length N.pairs + 1 = length_push N.pairs new_row in
          let at : length N.pairs ≡ x = omega arith in
          let kind : supply_at M (length N.pairs) ≡ supply_kind t.supply = ap (λ o. unwrap_or (option_map (λ p. p.supply) o) supply.Buy) last_pair in
          subst (λ (y : ℕ). HasSupply (supply_at M y) (sources_of_pair M y)) at
          (subst (λ (s : Supply). HasSupply s (sources_of_pair M (length N.pairs))) (sym kind)
          (subst (λ (l : List SourceRow). HasSupply (supply_kind t.supply) l) (sym new_kept) (supply_is N (length N.pairs) t.supply says.supply)))

  old_other : (s : SourceRow) → s.pair.0 < length N.pairs → (s.plant.0 == plant_at N s.pair.0) ≡ false → (s.plant.0 == plant_at M s.pair.0) ≡ false
  old_other s lt e = ap (λ z. s.plant.0 == z) (old_plant s.pair.0 lt) ∙ e

  new_other : (s : SourceTerms) → bytes_eq s.plant t.plant ≡ false → has_plant N s.plant ≡ true
      → ((source_row N (length N.pairs) s).plant.0 == plant_at M (length N.pairs)) ≡ false
  new_other s differ known =
      let here : plant_at M (length N.pairs) ≡ unwrap_or (plant_no N t.plant) 0 =
      ap (λ o. unwrap_or (option_map (λ p. p.plant.0) o) 0) last_pair ∙ ap (λ o. unwrap_or o 0) (sym fit.at) in
      ap (λ z. unwrap_or (plant_no N s.plant) 0 == z) here
      ∙ places_differ N.plants s.plant t.plant differ known (any-from_position (bytes_eq t.plant) N.plants plant.0 fit.at)

  pair_others : All (λ s. (s.plant.0 == plant_at M s.pair.0) ≡ false) M.sources
  pair_others =
      All-append (λ s. (s.plant.0 == plant_at M s.pair.0) ≡ false) N.sources new_rows
      (λ k d lt. old_other (get_or N.sources k d) (old_sources k d lt) (sourced.others k d lt))
      (All-map (λ s. (s.plant.0 == plant_at M s.pair.0) ≡ false) (source_row N (length N.pairs)) (named_sources t.supply)
      (λ k d lt. new_other (get_or (named_sources t.supply) k d) (All-from_any (λ s. bytes_eq s.plant t.plant) (named_sources t.supply) fit.others k d lt)
      (fit.known k d lt)))

  -- ---- each item is some pair's, and a pair has few sources

  pair_items : (item : ℕ) → item < length M.items → is_item_of_pair M item ≡ true
  pair_items item within = ⊎_elim left right (cases_lt item (length N.items))
    where
      left : item < length N.items → is_item_of_pair M item ≡ true
      left lt = any_left (λ p. p.item.0 == item) N.pairs (new_row ∷ []) (sourced.items item lt)

      right : length N.items ≤ item → is_item_of_pair M item ≡ true
      right le =
          let last = last_item N.items t.item item within le in
          let place : new_row.item.0 ≡ item = new_item N.items t.item last.1 ∙ sym last.0 in
          list_any-append (λ (p : PairRow). p.item.0 == item) N.pairs (new_row ∷ [])
          ∙ last_hits (list_any (λ (p : PairRow). p.item.0 == item) N.pairs) (new_row.item.0 == item) (eq-eqb new_row.item.0 item place)

  new_size : length new_rows ≤ MOST_SOURCES_OF_PAIR
  new_size = omega (arith, length-map (named_sources t.supply) (source_row N (length N.pairs)), named_few t.supply says.supply)

  pair_few : (x : ℕ) → IsPair M x → length (sources_of_pair M x) ≤ MOST_SOURCES_OF_PAIR
  pair_few x within = ⊎_elim left right (cases_lt x (length N.pairs))
    where
      left : x < length N.pairs → length (sources_of_pair M x) ≤ MOST_SOURCES_OF_PAIR
      left lt = subst (λ (l : List SourceRow). length l ≤ MOST_SOURCES_OF_PAIR) (sym (old_kept x lt)) (sourced.few x lt)

      right : length N.pairs ≤ x → length (sources_of_pair M x) ≤ MOST_SOURCES_OF_PAIR
      right le =
          let longer : length M.pairs ≡ length N.pairs + 1 = length_push N.pairs new_row in
          let at : length N.pairs ≡ x = omega arith in
          subst (λ (y : ℕ). length (sources_of_pair M y) ≤ MOST_SOURCES_OF_PAIR) at
          (subst (λ (l : List SourceRow). length l ≤ MOST_SOURCES_OF_PAIR) (sym new_kept) new_size)

  pair_sourced : IsSourced M
  pair_sourced = record {
    items = pair_items;
    few = pair_few;
    arrive = sourced.arrive;
    order = ordered_append (λ s. s.pair.0) (length N.pairs) N.sources new_rows sourced.order (λ k d lt. omega (arith, old_sources k d lt)) new_sources;
    supplies = pair_supplies;
    others = pair_others;
    parents = λ k d lt. old_supply _ (read.bills k d lt).parent ∙ sourced.parents k d lt;
    plants = λ k d lt. old_plant _ (read.bills k d lt).parent ∙ sourced.plants k d lt ∙ sym (old_plant _ (read.bills k d lt).component);
    ships = λ k d lt. any_left _ N.sources new_rows (sourced.ships k d lt);
    cums = λ k d lt. any_left _ N.sources new_rows (sourced.cums k d lt);
    resets = λ k d lt. any_left _ N.sources new_rows (sourced.resets k d lt);
    usages = sourced.usages;
    vendors = λ k d lt. old_supply _ (read.vendors k d lt).pair ∙ sourced.vendors k d lt;
    named = sourced.named;
  }

  -- ---- the pair, its item and its sources are in range

  more_pairs : length M.pairs ≡ length N.pairs + 1
  more_pairs = length_push N.pairs new_row

  more_items : length M.items ≤ length N.items + 1
  more_items = (length-add_item-le N.items t.item).1

  more_sources : length M.sources ≤ length N.sources + MOST_SOURCES_OF_PAIR
  more_sources = omega (arith, length-append N.sources new_rows, new_size)

  grows : Grows N M
  grows = record {
    limits = refl;
    calendar = λ is. is;
    periods = refl;
    plants = omega arith;
    items = (length-add_item-le N.items t.item).0;
    pairs = omega (arith, more_pairs);
  }

  row_in : IsPairRow M new_row
  row_in = record {
    plant = plant_within N t.plant plant.0 fit.at;
    item = place_within (add_item N.items t.item) t.item (item_added N.items t.item);
    rule = says.rule;
    lead = says.lead;
    on_hand = says.on_hand;
    safety = says.safety;
  }

  source_in : (s : SourceTerms) → IsShare s → has_plant N s.plant ≡ true → IsSourceRow M (source_row N (length N.pairs) s)
  source_in s share known = record {
    pair = omega (arith, more_pairs);
    plant = place_within N.plants s.plant known;
    rises = share.rises;
    ends =
        omega (arith, share.ends);
  }

  sources_in : All (IsSourceRow M) new_rows
  sources_in =
      All-map (IsSourceRow M) (source_row N (length N.pairs)) (named_sources t.supply)
      (λ k d lt. source_in (get_or (named_sources t.supply) k d) (named_shares t.supply says.supply k d lt) (fit.known k d lt))

  pair_read : length N.items ≤ length N.pairs → length N.sources ≤ MOST_SOURCES_OF_PAIR * length N.pairs → IsRead M
  pair_read few_items few_sources =
      let sources : Changes (IsSourceRow M) (most N).sources N.sources M.sources = record {
        each = λ all. All-append (IsSourceRow M) N.sources new_rows all sources_in;
        few = λ _. omega (arith, more_sources, few_sources, fit.room, sources_are N.limits);
      } in
      let item : Changes IsName (most N).pairs N.items M.items = name_added (most N).pairs N.items t.item says.item (omega (arith, few_items, fit.room)) in
      read_grows N M read grows same_rows item (one_more new_row row_in fit.room) sources same_rows same_rows same_rows same_rows same_rows same_rows same_rows
      same_rows same_rows same_rows

-- a pair row more stands after the run, the plants and other pairs
pub pair_keeps : (N M : Table) (last : Kind) (row : List (List ℕ)) → IsReadSoFar N last → kind_place last ≤ kind_place kind.Pair → pair_row N row ≡ Ok M
    → IsReadSoFar M kind.Pair
pair_keeps N M last row so_far before is =
    let a = after (pair_terms N.limits row) _ M is in
    let b = after (pair_fits N a.0) _ M a.2 in
    let same : with_pair_terms N b.0 a.0 ≡ M = same_Ok _ M b.2 in
    let fit = fits N a.0 b.0 b.1 in
    let says = pair_terms_are N.limits row a.0 a.1 in
    let made = with_pair_terms N b.0 a.0 in
    let read = so_far.read in
    let once = so_far.once in
    let sourced = so_far.sourced in
    let kept : IsReadSoFar made kind.Pair = record {
      read = pair_read N b.0 a.0 read once sourced fit says so_far.items so_far.sources;
      once = pair_once N b.0 a.0 read once sourced fit says;
      sourced = pair_sourced N b.0 a.0 read once sourced fit says;
      items = omega (arith, more_items N b.0 a.0 read once sourced fit says, more_pairs N b.0 a.0 read once sourced fit says, so_far.items);
      sources = omega (arith, more_sources N b.0 a.0 read once sourced fit says, more_pairs N b.0 a.0 read once sourced fit says, so_far.sources);
      resets = λ lt. so_far.resets (omega (arith, before));
      vendors = λ lt. so_far.vendors (omega (arith, before));
      ended = λ lt. so_far.ended (omega (arith, before));
    } in
    subst (λ (m : Table). IsReadSoFar m kind.Pair) same kept
