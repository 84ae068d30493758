-- Records as CSV: the items in their rows, by the places of their names.
use Rattle.std.proofs.Common.{◌≡◌, ◌<◌, ◌+◌, ◌==◌, ℕ, nat_lt, Bool, cond, true, false, if◌then◌else◌, get_or, List, length, position, slice_get, option_map, []}
use Rattle.std.proofs.Common.{Option, Some, None, refl, sym, ap, subst, ◌∙◌, arith}
use Rattle.std.proofs.lemmas.Bool.{eqb-true, false≢true}
use Rattle.std.proofs.lemmas.Bool.Decides.{nat_tests}
use Rattle.std.proofs.lemmas.List.Quantifiers.{position-Some}
use Rattle.std.specs.List.{IsDistinct}
use Rattle.std.specs.Str.{bytes_eq}
use Rattle.std.proofs.lemmas.Map.Keys.{apart_from_distinct}
use Rattle.std.proofs.lemmas.Option.{get_or_from_slice_get, slice_get_within, slice_get-get_or}
use Rattle.std.proofs.lemmas.Slice.Eq.{bytes_eq-Decides}
use Rattle.mrp_master_data.proofs.Apart.{bytes_symm}
use Rattle.mrp_master_data.proofs.Keys.{position_is}
use Rattle.mrp_master_data.specs.declared.numbers.ItemNo.{ItemNo}
use Rattle.mrp_master_data.specs.Table.{IsTable, Table}
use Rattle.mrp_net.proofs.Naming.{name_at_place}
use Rattle.mrp_master_data.specs.Said.{item_name}
use Rattle.mrp_record_csv.specs.Grammar.{item_named}

-- where no name stands twice, a name has one place
pub place_of_name : (names : List (List ℕ)) (name : List ℕ) (i : ℕ) → IsDistinct bytes_eq names → slice_get names i ≡ Some name
    → position (bytes_eq name) names ≡ Some i
place_of_name names name i once here =
    let within : i < length names = slice_get_within names i name here in
    let is : get_or names i [] ≡ name = get_or_from_slice_get names i name [] here in
    position_is (bytes_eq name) names i [] within
    (λ k lt. bytes_symm name (get_or names k []) ∙ ap (bytes_eq (get_or names k [])) (sym is) ∙ apart_from_distinct bytes_eq names k i [] once lt within)
    ((bytes_eq-Decides name (get_or names i [])).1 (sym is))

-- the place of a name among the first i
abbrev pub below : ℕ → Option ℕ → Option ℕ
below i None = None
below i (Some place) = if nat_lt place i then Some place else None

-- and with one more
pub below_more : (names : List (List ℕ)) (x name : List ℕ) (i : ℕ) → IsDistinct bytes_eq names → slice_get names i ≡ Some x
    → below (i + 1) (position (bytes_eq name) names) ≡ cond (bytes_eq x name) (Some i) (below i (position (bytes_eq name) names))
below_more names x name i once here = by (bytes_eq x name) refl (position (bytes_eq name) names) refl
  where
    next : (a : ℕ) → nat_lt a (a + 1) ≡ true
    next a = grind (arith, nat_tests)

    other : (a b : ℕ) → (a == b) ≡ false → nat_lt a (b + 1) ≡ nat_lt a b
    other a b apart = grind (arith, nat_tests)

    by : (b : Bool) → bytes_eq x name ≡ b → (o : Option ℕ) → position (bytes_eq name) names ≡ o → below (i + 1) o ≡ cond b (Some i) (below i o)
    by true same o at =
        let is : x ≡ name = (bytes_eq-Decides x name).0 same in
        let found : o ≡ Some i = sym at ∙ place_of_name names name i once (here ∙ ap (λ (n : List ℕ). Some n) is) in
        ap (below (i + 1)) found ∙ rw (next i) refl
    by false apart None at = refl
    by false apart (Some place) at = elsewhere (place == i) refl
      where
        elsewhere : (b : Bool) → (place == i) ≡ b → below (i + 1) (Some place) ≡ below i (Some place)
        elsewhere true e =
            let p = position-Some (bytes_eq name) names place [] at in
            let is : place ≡ i = eqb-true place i e in
            let x_is : get_or names i [] ≡ x = get_or_from_slice_get names i x [] here in
            let same : bytes_eq name x ≡ true = subst (λ (n : List ℕ). bytes_eq name n ≡ true) (ap (λ (k : ℕ). get_or names k []) is ∙ x_is) p.1 in
            absurd (false≢true (sym apart ∙ bytes_symm x name ∙ same))
        elsewhere false e = rw (other place i e) refl

-- what a map of items finds with one more
pub found_more : (names : List (List ℕ)) (x name : List ℕ) (i : ℕ) (old new : Option ItemNo) → IsDistinct bytes_eq names → slice_get names i ≡ Some x
    → old ≡ option_map (λ i. record { 0 = i }) (below i (position (bytes_eq name) names)) → new ≡ cond (bytes_eq x name) (Some (record { 0 = i })) old
    → new ≡ option_map (λ i. record { 0 = i }) (below (i + 1) (position (bytes_eq name) names))
found_more names x name i old new once here so_far is =
    is ∙ ap (λ (o : Option ItemNo). cond (bytes_eq x name) (Some (record { 0 = i })) o) so_far
    ∙ turned (bytes_eq x name) (below i (position (bytes_eq name) names))
    ∙ sym (ap (option_map (λ i. record { 0 = i })) (below_more names x name i once here))
  where
    turned : (b : Bool) (o : Option ℕ) → cond b (Some (let n : ItemNo = record { 0 = i } in n)) (option_map (λ i. record { 0 = i }) o)
        ≡ option_map (λ i. record { 0 = i }) (cond b (Some i) o)
    turned true o = refl
    turned false o = refl

-- the item of its own name
pub item_of_name : (N : Table) (item : ItemNo) → IsTable N → item.0 < length N.items → item_named N (item_name N item.0) ≡ Some item
item_of_name N item is within = ap (option_map (λ i. record { 0 = i }))
    (place_of_name N.items (item_name N item.0) item.0 is.once.items (slice_get-get_or N.items item.0 [] within))

-- the name of an item that was found
pub name_of_item : (N : Table) (name : List ℕ) (item : ItemNo) → item_named N name ≡ Some item → (item.0 < length N.items) × (name ≡ item_name N item.0)
name_of_item N name item is = by (position (bytes_eq name) N.items) refl is
  where
    by : (at : Option ℕ) → position (bytes_eq name) N.items ≡ at → option_map (λ i. record { 0 = i }) at ≡ Some item
        → (item.0 < length N.items) × (name ≡ item_name N item.0)
    by None at e = absurd (cc)
    by (Some i) at e =
        let same : i ≡ item.0 = cc in
        let here : slice_get N.items i ≡ Some name = name_at_place N.items name i (sym at) in
        let there : slice_get N.items item.0 ≡ Some name = ap (slice_get N.items) (sym same) ∙ here in
        (slice_get_within N.items item.0 name there, sym (get_or_from_slice_get N.items item.0 name [] there))
