-- Master data: names of plants and items of which one more came, and where they stand.
use Rattle.std.proofs.Common.{if◌then◌else◌, ◌≡◌, ◌<◌, ℕ, false, List, [], ◌∷◌, ◌++◌, map, length, position, Option, None, Some}
use Rattle.std.proofs.Common.{IfSome, String, Global, ap, sym, ◌∙◌}
use Rattle.std.specs.Cmp.Lexicographic.{nat_list_eq_equiv}
use Rattle.std.specs.List.{IsDistinct, list_any}
use Rattle.std.specs.Str.{bytes_eq}
use Rattle.std.specs.String.{string_bytes}
use Rattle.std.proofs.lemmas.List.{map-append}
use Rattle.std.proofs.lemmas.List.Quantifiers.{position-Some}
use Rattle.mrp_master_data.proofs.SpelledLists.{distinct_push}
use Rattle.mrp_master_data.specs.Growing.{with_item}
use Rattle.mrp_master_data.specs.Table.{Table}

-- a name more stands apart from the others
pub distinct_name : (names : List (List ℕ)) (name : List ℕ) → IsDistinct bytes_eq names → list_any (bytes_eq name) names ≡ false
    → IsDistinct bytes_eq (names ++ name ∷ [])
distinct_name names name apart fresh =
    let turned : list_any (λ n. bytes_eq n name) names ≡ list_any (bytes_eq name) names = λ i. list_any (λ n. nat_list_eq_equiv.symm n name i) names in
    distinct_push bytes_eq names name apart (turned ∙ fresh)

-- where a name is found, there is a name
pub place_within : (name : List ℕ) (names : List (List ℕ)) (found : Option ℕ) → found ≡ position (bytes_eq name) names
    → IfSome found (λ place. place < length names)
place_within name names None is = tt
place_within name names (Some place) is = (position-Some (bytes_eq name) names place [] (sym is)).0

-- the table with an item that isn't there
pub item_added : (N : Table) (name : List ℕ) (items : List (List ℕ)) → list_any (bytes_eq name) N.items ≡ false → items ≡ N.items ++ name ∷ []
    → (let M : Table = record N { items = items } in M) ≡ with_item N name
item_added N name items fresh grown =
    ap (λ (ns : List (List ℕ)). let M : Table = record N { items = ns } in M) grown
    ∙ ap (λ b. let M : Table = record N { items = if b then N.items else N.items ++ name ∷ [] } in M) (sym fresh)
