-- The reader of tables: what it finds by the key of a name is what is found by the name.
use Rattle.std.proofs.Common.{◌≡◌, ◌<◌, ◌≤◌, ℕ, ltb, nat_le, slice_get, Bool, true, false, ◌==◌, ◌&&◌, eq-eqb, get_or, List, [], ◌∷◌, ◌++◌, length, map}
use Rattle.std.proofs.Common.{position, Option, None, Some, is_some, refl, ap, sym, ◌∙◌, subst, arith}
use Rattle.std.specs.Cmp.Lexicographic.{nat_list_eq_equiv}
use Rattle.std.specs.List.{All, IsDistinct, list_any}
use Rattle.std.specs.Str.{bytes_eq}
use Rattle.std.proofs.lemmas.Bool.Decides.{nat_tests}
use Rattle.std.proofs.lemmas.List.{get_or_append_left, map-append}
use Rattle.std.proofs.lemmas.List.Elements.{All-push, All-weaker}
use Rattle.std.proofs.lemmas.List.Folds.{list_any_none}
use Rattle.std.proofs.lemmas.List.Quantifiers.{position-Some}
use Rattle.std.proofs.lemmas.Map.Keys.{apart_from_distinct}
use Rattle.std.proofs.lemmas.Option.{get_or_from_slice_get}
use Rattle.std.proofs.lemmas.Slice.Eq.{bytes_eq-Decides}
use Rattle.mrp_tables.specs.Keys.{FindsNames, key_of, Knows, pair_key}
use Rattle.mrp_master_data.specs.Names.{pair_named, pair_of_item, plant_no}
use Rattle.mrp_master_data.specs.Table.{IsName, IsPairRow, IsRead, Table}
use Rattle.mrp_tables.specs.contracts.name_key.NameKeyPartialEq.TheImpl.{eq-value as same_name}
use Rattle.mrp_tables.specs.contracts.name_key.PairKeyPartialEq.TheImpl.{eq-value as same_pair}
use Rattle.mrp_tables.specs.declared.name_key.NameKey.{NameKey}
use Rattle.mrp_tables.specs.declared.name_key.PairKey.{PairKey}
use Rattle.mrp_tables.specs.declared.names.KnownNames.{KnownNames}
use Rattle.mrp_master_data.specs.declared.rows.PairRow.{PairRow}
use Rattle.mrp_master_data.proofs.Keys.{All-from_position, any_of_keys, map_within, no_position, position_is, position_of_keys, same_test}
use Rattle.mrp_master_data.proofs.Naming.{distinct_name}
use Rattle.mrp_tables.proofs.Words.{IsByte, key_test, name_bytes, name_short}

-- ---- names

-- a key is tested as its name is
tested : (name : List ℕ) (names : List (List ℕ)) → All IsByte name → All IsName names → All (λ n. same_name.it (key_of name) (key_of n) ≡ bytes_eq name n) names
tested name names bytes named = All-weaker IsName (λ n. same_name.it (key_of name) (key_of n) ≡ bytes_eq name n)
    (λ n is. key_test name n bytes (name_bytes n is)) names named

pub place_of_name : (name : List ℕ) (names : List (List ℕ)) (keys : List NameKey) → All IsByte name → FindsNames names keys
    → position (same_name.it (key_of name)) keys ≡ position (bytes_eq name) names
place_of_name name names keys bytes finds =
    ap (position (same_name.it (key_of name))) finds.in_order
    ∙ position_of_keys key_of (same_name.it (key_of name)) (bytes_eq name) names (tested name names bytes finds.named)

pub any_of_name : (name : List ℕ) (names : List (List ℕ)) (keys : List NameKey) → All IsByte name → FindsNames names keys
    → list_any (same_name.it (key_of name)) keys ≡ list_any (bytes_eq name) names
any_of_name name names keys bytes finds =
    ap (list_any (same_name.it (key_of name))) finds.in_order
    ∙ any_of_keys key_of (same_name.it (key_of name)) (bytes_eq name) names (tested name names bytes finds.named)

-- a text that is no name isn't found
short : (k : ℕ) → nat_le k 20 ≡ true → k ≤ 20
short k e = grind (arith, nat_tests)

unlike : (name n : List ℕ) → 20 < length name → IsName n → bytes_eq name n ≡ false
unlike name n long named = by (bytes_eq name n) refl
  where
    by : (b : Bool) → bytes_eq name n ≡ b → bytes_eq name n ≡ false
    by true e = absurd (omega (arith, long, short (length n) (name_short n named), ap length ((bytes_eq-Decides name n).0 e)))
    by false e = e

pub no_name : (name : List ℕ) (names : List (List ℕ)) → 20 < length name → All IsName names → position (bytes_eq name) names ≡ None
no_name name names long named =
    no_position (bytes_eq name) names (list_any_none (bytes_eq name) names
    (All-weaker IsName (λ n. bytes_eq name n ≡ false) (λ n is. unlike name n long is) names named))

-- ---- pairs

-- a name by its place
same_item : (name : List ℕ) (items : List (List ℕ)) (i j : ℕ) → IsDistinct bytes_eq items → position (bytes_eq name) items ≡ Some i → j < length items
    → bytes_eq name (get_or items j []) ≡ (j == i)
same_item name items i j apart at lt = by (ltb j i) refl (ltb i j) refl
  where
    there : (i < length items) × (bytes_eq name (get_or items i []) ≡ true) × ((k : ℕ) → k < i → bytes_eq name (get_or items k []) ≡ false)
    there = position-Some (bytes_eq name) items i [] at

    other : (a b : ℕ) → ltb a b ≡ true → (a == b) ≡ false
    other a b e = grind (arith, nat_tests)

    below : (a b : ℕ) → ltb a b ≡ true → a < b
    below a b e = grind (arith, nat_tests)

    equal : (a b : ℕ) → ltb a b ≡ false → ltb b a ≡ false → a ≡ b
    equal a b e f = grind (arith, nat_tests)

    by : (b : Bool) → ltb j i ≡ b → (c : Bool) → ltb i j ≡ c → bytes_eq name (get_or items j []) ≡ (j == i)
    by true e c f = there.2 j (below j i e) ∙ sym (other j i e)
    by false e true f =
        let is : name ≡ get_or items i [] = (bytes_eq-Decides name (get_or items i [])).0 there.1 in
        ap (λ (n : List ℕ). bytes_eq n (get_or items j [])) is ∙ apart_from_distinct bytes_eq items i j [] apart (below i j f) lt
        ∙ sym (same_test j i ∙ other i j f)
    by false e false f =
        let same : j ≡ i = equal j i e f in
        ap (λ (k : ℕ). bytes_eq name (get_or items k [])) same ∙ there.1 ∙ sym (eq-eqb j i same)

-- a key at a place is tested as the name there is
by_name : (name : List ℕ) (names : List (List ℕ)) (j : ℕ) → All IsByte name → All IsName names → j < length names
    → same_name.it (key_of name) (key_of (get_or names j [])) ≡ bytes_eq name (get_or names j [])
by_name name names j bytes named lt = key_test name (get_or names j []) bytes (name_bytes (get_or names j []) (named j [] lt))

-- so that of a name that stands at a place, and that of one that stands at none
at_place : (name : List ℕ) (names : List (List ℕ)) (i j : ℕ) → All IsByte name → All IsName names → IsDistinct bytes_eq names
    → position (bytes_eq name) names ≡ Some i → j < length names
    → same_name.it (key_of name) (key_of (get_or names j [])) ≡ (j == i)
at_place name names i j bytes named apart at lt = by_name name names j bytes named lt ∙ same_item name names i j apart at lt

at_none : (name : List ℕ) (names : List (List ℕ)) (j : ℕ) → All IsByte name → All IsName names → position (bytes_eq name) names ≡ None → j < length names
    → same_name.it (key_of name) (key_of (get_or names j [])) ≡ false
at_none name names j bytes named none lt = by_name name names j bytes named lt ∙ All-from_position (bytes_eq name) names none j [] lt

never : (b : Bool) → (b && false) ≡ false
never true = refl
never false = refl

-- the key of two names
abbrev pub named_key : List ℕ → List ℕ → PairKey
named_key plant item = record { plant = key_of plant; item = key_of item }

-- the pair of the names of a plant and an item
module _ (N : Table) (plant item : List ℕ) (k : KnownNames) (of_plant : All IsByte plant) (of_item : All IsByte item) (read : IsRead N)
    (knows : Knows N k) where
  abbrev test : PairKey → Bool
  test = same_pair.it (named_key plant item)

  abbrev key_in : PairRow → PairKey
  key_in = pair_key N.plants N.items

  -- whether a row is of the plant and the item at these places
  is_at : (a i : ℕ) → position (bytes_eq plant) N.plants ≡ Some a → position (bytes_eq item) N.items ≡ Some i
      → All (λ p. test (key_in p) ≡ ((p.plant.0 == a) && (p.item.0 == i))) N.pairs
  is_at a i here there = All-weaker (IsPairRow N) (λ p. test (key_in p) ≡ ((p.plant.0 == a) && (p.item.0 == i)))
      (λ p row.
      ap (λ (b : Bool). b && same_name.it (key_of item) (key_of (get_or N.items p.item.0 [])))
      (at_place plant N.plants a p.plant.0 of_plant knows.plants.named knows.plants.apart here row.plant)
      ∙ ap (λ (b : Bool). (p.plant.0 == a) && b) (at_place item N.items i p.item.0 of_item knows.items.named knows.items.apart there row.item))
      N.pairs read.pairs

  no_plant_at : position (bytes_eq plant) N.plants ≡ None → All (λ p. test (key_in p) ≡ false) N.pairs
  no_plant_at none = All-weaker (IsPairRow N) (λ p. test (key_in p) ≡ false)
      (λ p row.
      ap (λ (b : Bool). b && same_name.it (key_of item) (key_of (get_or N.items p.item.0 [])))
      (at_none plant N.plants p.plant.0 of_plant knows.plants.named none row.plant))
      N.pairs read.pairs

  no_item_at : position (bytes_eq item) N.items ≡ None → All (λ p. test (key_in p) ≡ false) N.pairs
  no_item_at none = All-weaker (IsPairRow N) (λ p. test (key_in p) ≡ false)
      (λ p row.
      ap (λ (b : Bool). same_name.it (key_of plant) (key_of (get_or N.plants p.plant.0 [])) && b)
      (at_none item N.items p.item.0 of_item knows.items.named none row.item)
      ∙ never (same_name.it (key_of plant) (key_of (get_or N.plants p.plant.0 []))))
      N.pairs read.pairs

  nowhere : All (λ p. test (key_in p) ≡ false) N.pairs → position test k.pairs.keys ≡ None
  nowhere apart = no_position test k.pairs.keys
      (ap (list_any test) knows.pairs ∙ any_of_keys key_in test (λ p. false) N.pairs apart ∙ list_any_none (λ p. false) N.pairs (λ j d lt. refl))

  pub place_of_pair : position test k.pairs.keys ≡ pair_named N (plant_no N plant) item
  place_of_pair = by (position (bytes_eq plant) N.plants) refl (position (bytes_eq item) N.items) refl
    where
      by : (o : Option ℕ) → position (bytes_eq plant) N.plants ≡ o → (q : Option ℕ) → position (bytes_eq item) N.items ≡ q
          → position test k.pairs.keys ≡ pair_named N (plant_no N plant) item
      by None none q there =
          nowhere (no_plant_at none) ∙ sym (ap (λ (o : Option ℕ). pair_named N o item) none)
      by (Some a) here None none =
          nowhere (no_item_at none)
          ∙ sym (ap (λ (o : Option ℕ). pair_named N o item) here ∙ ap (pair_of_item N a) none)
      by (Some a) here (Some i) there =
          ap (position test) knows.pairs ∙ position_of_keys key_in test (λ p. (p.plant.0 == a) && (p.item.0 == i)) N.pairs (is_at a i here there)
          ∙ sym (ap (λ (o : Option ℕ). pair_named N o item) here ∙ ap (pair_of_item N a) there)

  -- whether there is a row of a pair
  pub any_of_pair : (a i : ℕ) → position (bytes_eq plant) N.plants ≡ Some a → position (bytes_eq item) N.items ≡ Some i
      → list_any test k.pairs.keys ≡ list_any (λ p. (p.plant.0 == a) && (p.item.0 == i)) N.pairs
  any_of_pair a i here there =
      ap (list_any test) knows.pairs ∙ any_of_keys key_in test (λ p. (p.plant.0 == a) && (p.item.0 == i)) N.pairs (is_at a i here there)

-- a pair that was found is of a plant
pub plant_of_pair : (N : Table) (plant : Option ℕ) (item : List ℕ) (x : ℕ) → Some x ≡ pair_named N plant item → is_some plant ≡ true
plant_of_pair N None item x found = absurd (cc)
plant_of_pair N (Some p) item x found = refl

-- texts that are no plant's or no item's name, since they are too long
pub no_long_plant : (N : Table) (k : KnownNames) (plant item : List ℕ) → 20 < length plant → Knows N k → pair_named N (plant_no N plant) item ≡ None
no_long_plant N k plant item long knows = ap (λ (o : Option ℕ). pair_named N o item) (no_name plant N.plants long knows.plants.named)

pub no_long_item : (N : Table) (k : KnownNames) (plant : Option ℕ) (item : List ℕ) → 20 < length item → Knows N k → pair_named N plant item ≡ None
no_long_item N k None item long knows = refl
no_long_item N k (Some p) item long knows = ap (pair_of_item N p) (no_name item N.items long knows.items.named)

-- ---- one more

pub names_with : (names : List (List ℕ)) (keys : List NameKey) (name : List ℕ) → FindsNames names keys → IsName name → list_any (bytes_eq name) names ≡ false
    → FindsNames (names ++ name ∷ []) (keys ++ key_of name ∷ [])
names_with names keys name finds named fresh = record {
  named = All-push IsName names name finds.named named;
  apart = distinct_name names name finds.apart fresh;
  in_order = ap (λ (ks : List NameKey). ks ++ key_of name ∷ []) finds.in_order ∙ sym (map-append key_of names (name ∷ []));
}

-- the keys of the pairs stay as they are where names come behind the others
pub pairs_with_plant : (N : Table) (keys : List PairKey) (name : List ℕ) → keys ≡ map (pair_key N.plants N.items) N.pairs → IsRead N
    → keys ≡ map (pair_key (N.plants ++ name ∷ []) N.items) N.pairs
pairs_with_plant N keys name is read =
    let more : List (List ℕ) = N.plants ++ name ∷ [] in
    is ∙ map_within (pair_key N.plants N.items) (pair_key more N.items) N.pairs
    (All-weaker (IsPairRow N) (λ p. pair_key N.plants N.items p ≡ pair_key more N.items p)
    (λ p row. let e : get_or N.plants p.plant.0 [] ≡ get_or more p.plant.0 [] = sym (get_or_append_left N.plants (name ∷ []) [] p.plant.0 row.plant) in
    λ i. record { plant = key_of (e i); item = key_of (get_or N.items p.item.0 []) }) N.pairs read.pairs)

pub pairs_with_item : (N : Table) (keys : List PairKey) (name : List ℕ) → keys ≡ map (pair_key N.plants N.items) N.pairs → IsRead N
    → keys ≡ map (pair_key N.plants (N.items ++ name ∷ [])) N.pairs
pairs_with_item N keys name is read =
    let more : List (List ℕ) = N.items ++ name ∷ [] in
    is ∙ map_within (pair_key N.plants N.items) (pair_key N.plants more) N.pairs
    (All-weaker (IsPairRow N) (λ p. pair_key N.plants N.items p ≡ pair_key N.plants more p)
    (λ p row. let e : get_or N.items p.item.0 [] ≡ get_or more p.item.0 [] = sym (get_or_append_left N.items (name ∷ []) [] p.item.0 row.item) in
    λ i. record { plant = key_of (get_or N.plants p.plant.0 []); item = key_of (e i) }) N.pairs read.pairs)

pub pairs_with : (plants items : List (List ℕ)) (pairs : List PairRow) (keys : List PairKey) (row : PairRow) (plant item : List ℕ)
    → keys ≡ map (pair_key plants items) pairs → slice_get plants row.plant.0 ≡ Some plant → slice_get items row.item.0 ≡ Some item
    → keys ++ named_key plant item ∷ [] ≡ map (pair_key plants items) (pairs ++ row ∷ [])
pairs_with plants items pairs keys row plant item is here there =
    let d = get_or_from_slice_get plants row.plant.0 plant [] here in
    let e = get_or_from_slice_get items row.item.0 item [] there in
    let last : named_key plant item ≡ pair_key plants items row = λ i. record { plant = key_of (sym d i); item = key_of (sym e i) } in
    ap (λ (ks : List PairKey). ks ++ named_key plant item ∷ []) is ∙ ap (λ (k : PairKey). map (pair_key plants items) pairs ++ k ∷ []) last
    ∙ sym (map-append (pair_key plants items) pairs (row ∷ []))

-- ---- the name at a place

-- a name that stands at a place is found there
pub place_near : (names : List (List ℕ)) (name known : List ℕ) (near : ℕ) → IsDistinct bytes_eq names → near < length names → known ≡ get_or names near known
    → bytes_eq known name ≡ true
    → position (bytes_eq name) names ≡ Some near
place_near names name known near distinct within at same =
    let is : known ≡ name = (bytes_eq-Decides known name).0 same in
    let here : get_or names near known ≡ known = sym at in
    subst (λ (n : List ℕ). position (bytes_eq n) names ≡ Some near) is
    (position_is (bytes_eq known) names near known within
    (λ k lt.
    nat_list_eq_equiv.symm known (get_or names k known) ∙ ap (bytes_eq (get_or names k known)) at
    ∙ apart_from_distinct bytes_eq names k near known distinct lt within)
    (ap (bytes_eq known) here ∙ nat_list_eq_equiv.refl known))

pub named_at : (names : List (List ℕ)) (i : ℕ) (x : List ℕ) → i < length names → All IsName names → slice_get names i ≡ Some x → IsName x
named_at names i x lt named at = subst IsName (get_or_from_slice_get names i x [] at) (named i [] lt)

pub placed_at : (names : List (List ℕ)) (i : ℕ) (x : List ℕ) → i < length names → IsDistinct bytes_eq names → slice_get names i ≡ Some x
    → position (bytes_eq x) names ≡ Some i
placed_at names i x lt apart at = place_near names x x i apart lt (sym (get_or_from_slice_get names i x x at)) (nat_list_eq_equiv.refl x)
