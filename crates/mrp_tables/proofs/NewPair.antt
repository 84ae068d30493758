-- The reader of tables: it adds a pair row, with its item and its sources.
use Rattle.std.proofs.Common.{◌≡◌, ◌+◌, ◌<◌, ◌==◌, ◌&&◌, ℕ, Bool, true, false, if◌then◌else◌, List, [], ◌∷◌, ◌++◌, length, map, get_or, take, position}
use Rattle.std.proofs.Common.{unwrap_or, Option, Some, None, refl, sym, ap, ◌∙◌, subst, append_assoc, arith}
use Rattle.std.specs.List.{list_any}
use Rattle.std.specs.Str.{bytes_eq}
use Rattle.std.proofs.lemmas.Bool.{eqb-true, false≢true}
use Rattle.std.proofs.lemmas.Bool.Decides.{nat_tests}
use Rattle.std.proofs.lemmas.List.{get_or_append_left, get_or-take, length-take-le, length_push, map-append, take_more}
use Rattle.std.proofs.lemmas.List.Folds.{list_any-append, list_any_at, list_any_none}
use Rattle.std.proofs.Math.Seq.{get_or-append_seam}
use Rattle.std.proofs.lemmas.List.Quantifiers.{position-Some}
use Rattle.std.proofs.lemmas.List.Sums.{AllPass-from_list_all}
use Rattle.std.proofs.lemmas.Option.{get_or_from_slice_get, slice_get-get_or}
use Rattle.std.proofs.lemmas.Slice.Eq.{bytes_eq-Decides}
use Rattle.mrp_master_data.specs.declared.rows.PairRow.{PairRow}
use Rattle.mrp_master_data.specs.declared.rows.SourceRow.{SourceRow}
use Rattle.mrp_tables.specs.Drafts.{IsNewPair, with_sources}
use Rattle.mrp_master_data.specs.Names.{has_plant, pair_named, pair_of_item, plant_no}
use Rattle.mrp_validation.specs.Grammar.{knows_sources, source_row}
use Rattle.mrp_master_data.specs.Growing.{add_item, with_item, with_pair, with_source}
use Rattle.mrp_master_data.specs.Supplies.{SourceTerms}
use Rattle.mrp_master_data.specs.Table.{IsRead, is_taken_from, Table}
use Rattle.mrp_master_data.proofs.Keys.{All-from_position, position_is}
use Rattle.mrp_master_data.proofs.Mapped.{list_any_keys}

-- a read within a list has any default
any_default : {X : Type 0} (xs : List X) (k : ℕ) (a b : X) → k < length xs → get_or xs k a ≡ get_or xs k b
any_default xs k a b lt = get_or_from_slice_get xs k (get_or xs k b) a (slice_get-get_or xs k b lt)

-- a name that is there has a place
known_place : (name : List ℕ) (names : List (List ℕ)) (o : Option ℕ) → position (bytes_eq name) names ≡ o → list_any (bytes_eq name) names ≡ true
    → (o ≡ Some (unwrap_or o 0)) × (get_or names (unwrap_or o 0) [] ≡ name)
known_place name names None at there = absurd (false≢true (sym (list_any_none (bytes_eq name) names (All-from_position (bytes_eq name) names at)) ∙ there))
known_place name names (Some k) at there =
    let p = position-Some (bytes_eq name) names k [] at in
    (refl, sym ((bytes_eq-Decides name (get_or names k [])).0 p.1))

pub place_known : (name : List ℕ) (names : List (List ℕ)) → list_any (bytes_eq name) names ≡ true → position (bytes_eq name) names ≡ None → ⊥
place_known name names there at = false≢true (sym (list_any_none (bytes_eq name) names (All-from_position (bytes_eq name) names at)) ∙ there)

-- names that differ have different places
place_apart : (a b : List ℕ) (names : List (List ℕ)) → list_any (bytes_eq a) names ≡ true → list_any (bytes_eq b) names ≡ true → bytes_eq a b ≡ false
    → (unwrap_or (position (bytes_eq a) names) 0 == unwrap_or (position (bytes_eq b) names) 0) ≡ false
place_apart a b names ka kb ne = by (unwrap_or (position (bytes_eq a) names) 0 == unwrap_or (position (bytes_eq b) names) 0) refl
  where
    by : (t : Bool) → (unwrap_or (position (bytes_eq a) names) 0 == unwrap_or (position (bytes_eq b) names) 0) ≡ t → t ≡ false
    by true e =
        let pa = known_place a names (position (bytes_eq a) names) refl ka in
        let pb = known_place b names (position (bytes_eq b) names) refl kb in
        let same : a ≡ b = sym pa.1 ∙ ap (λ k. get_or names k []) (eqb-true _ _ e) ∙ pb.1 in
        absurd (false≢true (sym ne ∙ (bytes_eq-Decides a b).1 same))
    by false e = refl

misses : (b : Bool) (m n : ℕ) → m < n → (b && (m == n)) ≡ false
misses true m n lt = grind (arith, nat_tests)
misses false m n lt = refl

and_false : (b c : Bool) → b ≡ false → (b && c) ≡ false
and_false b c e = rw e refl

-- ---- the sources of a pair, one after the other

module _ (N M : Table) (x : ℕ) (ss : List SourceTerms) (i : ℕ) (d : SourceTerms) (is : M ≡ with_sources N x (take i ss)) where
  pub sources_known : knows_sources N ss ≡ true → i < length ss → has_plant M (get_or ss i d).plant ≡ true
  sources_known known lt = subst (λ (T : Table). has_plant T (get_or ss i d).plant ≡ true) (sym is)
      (AllPass-from_list_all (λ (s : SourceTerms). has_plant N s.plant) ss known i d lt)

  pub sources_fresh : IsNewPair N x → knows_sources N ss ≡ true → ((j : ℕ) → j < i → bytes_eq (get_or ss j d).plant (get_or ss i d).plant ≡ false)
      → i < length ss
      → is_taken_from M x (source_row M x (get_or ss i d)).plant.0 ≡ false
  sources_fresh new known apart lt =
      let q = unwrap_or (plant_no N (get_or ss i d).plant) 0 in
      let test : SourceRow → Bool = λ s. (s.plant.0 == q) && (s.pair.0 == x) in
      let old : list_any test N.sources ≡ false = list_any_none test N.sources
      (λ k e kn. misses ((get_or N.sources k e).plant.0 == q) (get_or N.sources k e).pair.0 x (new.sources k e kn)) in
      let rows = map (source_row N x) (take i ss) in
      let view : SourceTerms → Bool = λ s. (unwrap_or (plant_no N s.plant) 0 == q) && (x == x) in
      let all : (k : ℕ) → k < length ss → has_plant N (get_or ss k d).plant ≡ true =
      λ k kn. AllPass-from_list_all (λ (s : SourceTerms). has_plant N s.plant) ss known k d kn in
      let size = length-take-le i ss (omega arith) in
      let none : list_any view (take i ss) ≡ false =
      list_any_none view (take i ss) (λ k e kn.
      let ki : k < i = omega (arith, size, kn) in
      let same : get_or (take i ss) k e ≡ get_or ss k d = get_or-take i ss k e ki ∙ any_default ss k e d (omega arith) in
      subst (λ (s : SourceTerms). view s ≡ false) (sym same)
      (and_false _ (x == x) (place_apart (get_or ss k d).plant (get_or ss i d).plant N.plants (all k (omega arith)) (all i lt) (apart k ki)))) in
      let made : list_any test rows ≡ false = list_any_keys (source_row N x) test view (λ s. refl) (take i ss) ∙ none in
      let total : list_any test (N.sources ++ rows) ≡ false = list_any-append test N.sources rows ∙ rw (old, made) refl in
      subst (λ (T : Table). is_taken_from T x (source_row T x (get_or ss i d)).plant.0 ≡ false) (sym is) total

  pub sources_more : (L : Table) → L ≡ with_source M (source_row M x (get_or ss i d)) → i < length ss → L ≡ with_sources N x (take (i + 1) ss)
  sources_more L made lt =
      let f = source_row N x in
      let step : N.sources ++ map f (take i ss) ++ f (get_or ss i d) ∷ [] ≡ N.sources ++ map f (take (i + 1) ss) =
      append_assoc N.sources (map f (take i ss)) (f (get_or ss i d) ∷ [])
      ∙ ap (λ (more : List SourceRow). N.sources ++ more) (sym (map-append f (take i ss) (get_or ss i d ∷ [])) ∙ ap (map f) (sym (take_more ss i d lt))) in
      made ∙ ap (λ (T : Table). with_source T (source_row T x (get_or ss i d))) is
      ∙ ap (λ (rows : List SourceRow). let T : Table = record N { sources = rows } in T) step

-- ---- the pair and its item

-- a pair that isn't there has a new key
none_position : (o : Option ℕ) (p : PairRow → Bool) (pairs : List PairRow) → position p pairs ≡ o → o ≡ None → list_any p pairs ≡ false
none_position o p pairs at e = list_any_none p pairs (All-from_position p pairs (at ∙ e))

abbrev at_key : ℕ → ℕ → PairRow → Bool
at_key plant item p = (p.plant.0 == plant) && (p.item.0 == item)

-- where a name stands among the items with it
pub new_place : (items : List (List ℕ)) (name : List ℕ) → list_any (bytes_eq name) items ≡ false
    → position (bytes_eq name) (items ++ name ∷ []) ≡ Some (length items)
new_place items name fresh =
    position_is (bytes_eq name) (items ++ name ∷ []) (length items) [] (omega (arith, length_push items name))
    (λ k lt. subst (λ (n : List ℕ). bytes_eq name n ≡ false) (sym (left items (name ∷ []) k lt)) (fails k lt))
    (subst (λ (n : List ℕ). bytes_eq name n ≡ true) (sym (seam items name)) ((bytes_eq-Decides name name).1 refl))
  where
    left : (xs ys : List (List ℕ)) (k : ℕ) → k < length xs → get_or (xs ++ ys) k [] ≡ get_or xs k []
    left xs ys k lt = get_or_append_left xs ys [] k lt

    seam : (xs : List (List ℕ)) (y : List ℕ) → get_or (xs ++ y ∷ []) (length xs) [] ≡ y
    seam xs y = get_or-append_seam xs y [] []

    fails : (k : ℕ) → k < length items → bytes_eq name (get_or items k []) ≡ false
    fails k lt = by (bytes_eq name (get_or items k [])) refl
      where
        by : (b : Bool) → bytes_eq name (get_or items k []) ≡ b → b ≡ false
        by true e = absurd (false≢true (sym fresh ∙ list_any_at (bytes_eq name) items k [] lt e))
        by false e = refl

pub fresh_pair : (N : Table) (plant : ℕ) (name : List ℕ) (item : ℕ) → IsRead N → pair_named N (Some plant) name ≡ None
    → item ≡ unwrap_or (position (bytes_eq name) (add_item N.items name)) 0
    → list_any (λ p. (p.plant.0 == plant) && (p.item.0 == item)) N.pairs ≡ false
fresh_pair N plant name item read lacks is = by (list_any (bytes_eq name) N.items) refl refl
  where
    by : (b : Bool) → list_any (bytes_eq name) N.items ≡ b → unwrap_or (position (bytes_eq name) (add_item N.items name)) 0
        ≡ unwrap_or (position (bytes_eq name) (if list_any (bytes_eq name) N.items then N.items else N.items ++ name ∷ [])) 0
        → list_any (at_key plant item) N.pairs ≡ false
    by true e q =
        let known = known_place name N.items (position (bytes_eq name) N.items) refl e in
        let here : item ≡ unwrap_or (position (bytes_eq name) N.items) 0 =
        is ∙ q ∙ ap (λ b. unwrap_or (position (bytes_eq name) (if b then N.items else N.items ++ name ∷ [])) 0) e in
        let none : position (at_key plant (unwrap_or (position (bytes_eq name) N.items) 0)) N.pairs ≡ None = sym (ap (pair_of_item N plant) known.0) ∙ lacks in
        subst (λ k. list_any (at_key plant k) N.pairs ≡ false) (sym here)
        (none_position None (at_key plant (unwrap_or (position (bytes_eq name) N.items) 0)) N.pairs none refl)
    by false e q =
        let here : item ≡ length N.items = is ∙ q ∙ ap (λ b. unwrap_or (position (bytes_eq name) (if b then N.items else N.items ++ name ∷ [])) 0) e
        ∙ ap (λ (o : Option ℕ). unwrap_or o 0) (new_place N.items name e) in
        subst (λ k. list_any (at_key plant k) N.pairs ≡ false) (sym here)
        (list_any_none (at_key plant (length N.items)) N.pairs (λ k d lt. misses ((get_or N.pairs k d).plant.0 == plant) (get_or N.pairs k d).item.0
        (length N.items) (read.pairs k d lt).item))

-- the pair after the last is new
pub pair_new : (N N1 N2 : Table) (name : List ℕ) (row : PairRow) (x : ℕ) → N1 ≡ with_item N name → N2 ≡ with_pair N1 row → x ≡ length N.pairs → IsRead N
    → IsNewPair N2 x
pair_new N N1 N2 name row x e1 e2 at read =
    let made : IsNewPair (with_pair (with_item N name) row) (length N.pairs) =
    record { sources = λ k d lt. (read.sources k d lt).pair; ships = λ k d lt. (read.ships k d lt).pair } in
    subst (λ (T : Table). IsNewPair T x) (sym (e2 ∙ ap (λ (T : Table). with_pair T row) e1))
    (subst (λ k. IsNewPair (with_pair (with_item N name) row) k) (sym at) made)
