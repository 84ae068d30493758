-- Master data that grow by a pair: what is found of a plant and an item.
use Rattle.std.proofs.Common.{◌≡◌, ◌<◌, ◌==◌, ◌∙◌, ℕ, Bool, true, false, cond, List, [], ◌∷◌, ◌++◌, length, position, Option, None, Some, IfSome}
use Rattle.std.proofs.Common.{option_map, refl, ap, sym, subst}
use Rattle.std.specs.List.{list_any}
use Rattle.std.proofs.lemmas.Bool.{and_parts, eqb-true}
use Rattle.std.proofs.lemmas.List.Quantifiers.{position-Some}
use Rattle.mrp_grouping.proofs.Finding.{last_fails, last_passes}
use Rattle.mrp_master_data.specs.Places.{FindsPairs, is_at, is_same_place}
use Rattle.mrp_master_data.specs.declared.numbers.PairNo.{PairNo}
use Rattle.mrp_master_data.specs.declared.row_lists.PlantItem.{PlantItem}
use Rattle.mrp_master_data.specs.declared.rows.PairRow.{PairRow}

-- the pairs with one more, which isn't among them
pub found_more : (old new : PlantItem → Option PairNo) (pairs more : List PairRow) (row : PairRow) (place : PairNo) → FindsPairs old pairs
    → list_any (is_at row.plant.0 row.item.0) pairs ≡ false → place.0 ≡ length pairs → more ≡ pairs ++ row ∷ []
    → ((key : PlantItem) → new key ≡ cond (is_same_place (record { plant = row.plant; item = row.item }) key) (Some place) (old key)) → FindsPairs new more
found_more old new pairs more row place finds fresh last grown found key =
    ap (option_map (λ (x : PairNo). x.0)) (found key) ∙ by (is_at key.plant.0 key.item.0 row) refl ∙ sym (ap (position (is_at key.plant.0 key.item.0)) grown)
  where
    by : (b : Bool) → is_at key.plant.0 key.item.0 row ≡ b
        → option_map (λ (x : PairNo). x.0) (cond b (Some place) (old key)) ≡ position (is_at key.plant.0 key.item.0) (pairs ++ row ∷ [])
    by true same =
        let parts = and_parts (row.plant.0 == key.plant.0) (row.item.0 == key.item.0) same in
        let plant : row.plant.0 ≡ key.plant.0 = eqb-true row.plant.0 key.plant.0 parts.0 in
        let item : row.item.0 ≡ key.item.0 = eqb-true row.item.0 key.item.0 parts.1 in
        let none : list_any (is_at key.plant.0 key.item.0) pairs ≡ false =
        subst (λ (i : ℕ). list_any (is_at key.plant.0 i) pairs ≡ false) item (subst (λ (p : ℕ). list_any (is_at p row.item.0) pairs ≡ false) plant fresh) in
        ap (λ (n : ℕ). Some n) last ∙ sym (last_passes (is_at key.plant.0 key.item.0) pairs row none same)
    by false other = finds key ∙ sym (last_fails (is_at key.plant.0 key.item.0) pairs row other)

-- where a pair is found, there is one
pub pair_within : (test : PairRow → Bool) (pairs : List PairRow) (found : Option PairNo) → option_map (λ (x : PairNo). x.0) found ≡ position test pairs
    → IfSome found (λ x. x.0 < length pairs)
pair_within test pairs None is = tt
pair_within test [] (Some x) is = absurd (cc)
pair_within test (p ∷ pairs) (Some x) is = (position-Some test (p ∷ pairs) x.0 p (sym is)).0
