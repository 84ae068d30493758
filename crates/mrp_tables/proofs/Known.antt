-- The reader of tables: what it finds by its keys with one more plant, item or pair.
use Rattle.std.proofs.Common.{◌≡◌, ◌<◌, ◌∙◌, ℕ, ltb, Bool, not, true, false, true≢false, if◌then◌else◌, unwrap_or, List, [], ◌∷◌, ◌++◌, length, map, position}
use Rattle.std.proofs.Common.{slice_get, Option, Some, refl, ap, sym, subst, arith}
use Rattle.std.specs.List.{IsDistinct, list_any, position_or_len}
use Rattle.std.specs.Str.{bytes_eq}
use Rattle.std.proofs.lemmas.Bool.{or_parts}
use Rattle.std.proofs.lemmas.List.{length-map}
use Rattle.mrp_master_data.specs.Growing.{add_item, with_item, with_pair, with_plant}
use Rattle.mrp_master_data.specs.Table.{IsName, IsRead, Table}
use Rattle.mrp_master_data.specs.declared.rows.PairRow.{PairRow}
use Rattle.mrp_master_data.proofs.Keys.{any-from_no_position}
use Rattle.mrp_tables.specs.Keys.{FindsAll, FindsNames, key_of, Knows, pair_key}
use Rattle.mrp_tables.specs.contracts.name_key.NameKeyPartialEq.TheImpl.{eq-value as same_name}
use Rattle.mrp_tables.specs.declared.name_key.NameKey.{NameKey}
use Rattle.mrp_tables.specs.declared.name_key.PairKey.{PairKey}
use Rattle.mrp_tables.specs.declared.names.KnownNames.{KnownNames}
use Rattle.mrp_tables.proofs.Found.{any_of_name, named_key, names_with, pairs_with, pairs_with_item, pairs_with_plant, place_of_name}
use Rattle.mrp_tables.proofs.NewPair.{new_place}
use Rattle.mrp_tables.proofs.Words.{name_bytes}

-- ---- one more

pub plant_more : (N M : Table) (k l : KnownNames) (name : List ℕ) → IsRead N → Knows N k → IsName name → list_any (bytes_eq name) N.plants ≡ false
    → M ≡ with_plant N name
    → l.plants.keys ≡ k.plants.keys ++ key_of name ∷ [] → l.items.keys ≡ k.items.keys → l.pairs.keys ≡ k.pairs.keys → Knows M l
plant_more N M k l name read knows named fresh made plants items pairs =
    let more : Knows (with_plant N name) l = record {
      plants = subst (FindsNames (N.plants ++ name ∷ [])) (sym plants) (names_with N.plants k.plants.keys name knows.plants named fresh);
      items = subst (FindsNames N.items) (sym items) knows.items;
      pairs = pairs ∙ pairs_with_plant N k.pairs.keys name knows.pairs read;
    } in
    subst (λ (T : Table). Knows T l) (sym made) more

pub item_more : (N M : Table) (k l : KnownNames) (name : List ℕ) → IsRead N → Knows N k → IsName name → list_any (bytes_eq name) N.items ≡ false
    → M ≡ with_item N name
    → l.plants.keys ≡ k.plants.keys → l.items.keys ≡ k.items.keys ++ key_of name ∷ [] → l.pairs.keys ≡ k.pairs.keys → Knows M l
item_more N M k l name read knows named fresh made plants items pairs =
    let grown : add_item N.items name ≡ N.items ++ name ∷ [] = ap (λ b. if b then N.items else N.items ++ name ∷ []) fresh in
    let more : FindsAll N.plants (N.items ++ name ∷ []) N.pairs l = record {
      plants = subst (FindsNames N.plants) (sym plants) knows.plants;
      items = subst (FindsNames (N.items ++ name ∷ [])) (sym items) (names_with N.items k.items.keys name knows.items named fresh);
      pairs = pairs ∙ pairs_with_item N k.pairs.keys name knows.pairs read;
    } in
    subst (λ (T : Table). Knows T l) (sym made) (subst (λ (is : List (List ℕ)). FindsAll N.plants is N.pairs l) (sym grown) more)

pub pair_more : (N M : Table) (k l : KnownNames) (row : PairRow) (plant item : List ℕ) → Knows N k → slice_get N.plants row.plant.0 ≡ Some plant
    → slice_get N.items row.item.0 ≡ Some item → M ≡ with_pair N row
    → l.plants.keys ≡ k.plants.keys → l.items.keys ≡ k.items.keys → l.pairs.keys ≡ k.pairs.keys ++ named_key plant item ∷ []
    → Knows M l
pair_more N M k l row plant item knows here there made plants items pairs =
    let more : Knows (with_pair N row) l = record {
      plants = subst (FindsNames N.plants) (sym plants) knows.plants;
      items = subst (FindsNames N.items) (sym items) knows.items;
      pairs = pairs ∙ pairs_with N.plants N.items N.pairs k.pairs.keys row plant item knows.pairs here there;
    } in
    subst (λ (T : Table). Knows T l) (sym made) more

-- ---- an item and its place

-- whether a name is among names, by its key
pub any_by_key : (name : List ℕ) (names : List (List ℕ)) (keys : List NameKey) (key : NameKey) → FindsNames names keys → IsName name → key ≡ key_of name
    → list_any (same_name.it key) keys ≡ list_any (bytes_eq name) names
any_by_key name names keys key finds named is =
    ap (λ (k : NameKey). list_any (same_name.it k) keys) is ∙ any_of_name name names keys (name_bytes name named) finds

none_passes : {X : Type 0} (p : X → Bool) (xs : List X) → list_any p xs ≡ false → position_or_len p xs ≡ length xs
none_passes p [] h = refl
none_passes p (x ∷ xs) h =
    let parts = or_parts (p x) (list_any p xs) h in
    rw (parts.0, none_passes p xs parts.1) (omega arith)

some_passes : {X : Type 0} (p : X → Bool) (xs : List X) → list_any p xs ≡ true → position_or_len p xs ≡ unwrap_or (position p xs) 0
some_passes p xs there = by (ltb (position_or_len p xs) (length xs)) refl
  where
    by : (b : Bool) → ltb (position_or_len p xs) (length xs) ≡ b → position_or_len p xs ≡ unwrap_or (position p xs) 0
    by true t = rw t refl
    by false t = absurd (true≢false (sym there ∙ any-from_no_position p xs (rw t refl)))

-- the table with an item that it has
pub table_same : (N : Table) (name : List ℕ) → list_any (bytes_eq name) N.items ≡ true → N ≡ with_item N name
table_same N name known = ap (λ b. let M : Table = record N { items = if b then N.items else N.items ++ name ∷ [] } in M) (sym known)

-- the place of a name that is there, by its key
pub place_by_key : (name : List ℕ) (names : List (List ℕ)) (keys : List NameKey) (key : NameKey) (place : ℕ) → FindsNames names keys → IsName name
    → key ≡ key_of name
    → list_any (bytes_eq name) names ≡ true → place ≡ position_or_len (same_name.it key) keys → place ≡ unwrap_or (position (bytes_eq name) names) 0
place_by_key name names keys key place finds named is known at =
    at ∙ some_passes (same_name.it key) keys (any_by_key name names keys key finds named is ∙ known)
    ∙ ap (λ (k : NameKey). unwrap_or (position (same_name.it k) keys) 0) is
    ∙ ap (λ (o : Option ℕ). unwrap_or o 0) (place_of_name name names keys (name_bytes name named) finds)

-- the place of a name that came last
pub place_of_last : (name : List ℕ) (names : List (List ℕ)) (keys : List NameKey) (key : NameKey) (place : ℕ) → FindsNames names keys → IsName name
    → key ≡ key_of name
    → list_any (bytes_eq name) names ≡ false → place ≡ position_or_len (same_name.it key) keys
    → place ≡ unwrap_or (position (bytes_eq name) (add_item names name)) 0
place_of_last name names keys key place finds named is fresh at =
    at ∙ none_passes (same_name.it key) keys (any_by_key name names keys key finds named is ∙ fresh) ∙ ap length finds.in_order ∙ length-map names key_of
    ∙ sym (ap (λ (o : Option ℕ). unwrap_or o 0) (ap (position (bytes_eq name)) grown ∙ new_place names name fresh))
  where
    grown : add_item names name ≡ names ++ name ∷ []
    grown = ap (λ b. if b then names else names ++ name ∷ []) fresh

-- a place among the keys is one among the names
pub within_names : (names : List (List ℕ)) (keys : List NameKey) (place : ℕ) → FindsNames names keys → place < length keys → place < length names
within_names names keys place finds lt = omega (arith, lt, ap length finds.in_order, length-map names key_of)

-- a test by its answer turned round
pub turned : (b n c : Bool) → n ≡ not b → n ≡ c → b ≡ not c
turned true n c is same = sym (ap not is) ∙ ap not same
turned false n c is same = sym (ap not is) ∙ ap not same

-- ---- no names

nothing : {X : Type 0} (xs : List X) → length xs ≡ 0 → xs ≡ []
nothing [] none = refl
nothing (x ∷ xs) none = absurd (omega (arith, none))

pub no_names : (keys : List NameKey) → length keys ≡ 0 → FindsNames [] keys
unfolding IsDistinct
no_names keys none = record { named = λ k d lt. absurd (omega (arith, lt)); apart = tt; in_order = nothing keys none }

pub no_pairs : (keys : List PairKey) → length keys ≡ 0 → keys ≡ map (pair_key [] []) []
no_pairs keys none = nothing keys none
