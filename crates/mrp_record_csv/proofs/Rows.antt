-- Records as CSV: their rows as they are written.
use Rattle.std.proofs.Common.{◌≡◌, ◌<◌, ◌≤◌, ◌+◌, ℕ, List, [], ◌∷◌, ◌++◌, length, map, take, get_or, sym, ap, ◌∙◌, append_assoc, append-nil, Result, Ok, Err}
use Rattle.std.proofs.Common.{OnErr}
use Rattle.std.specs.List.{flat_map, join_with_byte}
use Rattle.std.proofs.lemmas.List.{flat_map_more, take_more, take_all}
use Rattle.mrp_csv_out.specs.Rows.{row}
use Rattle.csv.specs.Machine.{line_feed}
use Rattle.csv.specs.Writing.{comma}
use Rattle.mrp_record_csv.specs.Rows.{Grows}

-- a row is its first field, then each other field with a comma before it, and the line feed
joined : {X : Type 0} (see : X → List ℕ) (word : List ℕ) (fields : List X)
    → join_with_byte comma (word ∷ map see fields) ≡ word ++ flat_map (λ f. comma ∷ see f) fields
joined see word [] = sym (append-nil word)
joined see word (f ∷ fs) = ap (λ t. word ++ comma ∷ t) (joined see (see f) fs)

pub row_is : {X : Type 0} (see : X → List ℕ) (word : List ℕ) (fields : List X)
    → row (word ∷ map see fields) ≡ (word ++ flat_map (λ f. comma ∷ see f) fields) ++ line_feed ∷ []
unfolding row
row_is see word fields = ap (λ t. t ++ line_feed ∷ []) (joined see word fields)

-- all fields are there
pub row_added : {X : Type 0} (see : X → List ℕ) (old now new word : List ℕ) (fields : List X) (n : ℕ) → length fields ≤ n
    → now ≡ (old ++ word) ++ flat_map (λ f. comma ∷ see f) (take n fields) → new ≡ now ++ line_feed ∷ [] → new ≡ old ++ row (word ∷ map see fields)
row_added see old now new word fields n all so_far end =
    let text = flat_map (λ f. comma ∷ see f) fields in
    let whole : now ≡ (old ++ word) ++ text = so_far ∙ ap (λ fs. (old ++ word) ++ flat_map (λ f. comma ∷ see f) fs) (take_all n fields all) in
    end ∙ ap (λ t. t ++ line_feed ∷ []) (whole ∙ append_assoc old word text) ∙ append_assoc old (word ++ text) (line_feed ∷ [])
    ∙ ap (λ t. old ++ t) (sym (row_is see word fields))

-- one field more
pub field_added : {X : Type 0} (see : X → List ℕ) (old now mid new word : List ℕ) (fields : List X) (n : ℕ) (d : X) → n < length fields
    → now ≡ (old ++ word) ++ flat_map (λ f. comma ∷ see f) (take n fields) → mid ≡ now ++ comma ∷ [] → new ≡ mid ++ see (get_or fields n d)
    → new ≡ (old ++ word) ++ flat_map (λ f. comma ∷ see f) (take (n + 1) fields)
field_added see old now mid new word fields n d within so_far first second =
    let added : new ≡ now ++ comma ∷ see (get_or fields n d) = second ∙ ap (λ t. t ++ see (get_or fields n d)) first
    ∙ append_assoc now (comma ∷ []) (see (get_or fields n d)) in
    added ∙ ap (λ t. t ++ comma ∷ see (get_or fields n d)) so_far ∙ flat_map_more (λ f. comma ∷ see f) (old ++ word) (take n fields) (get_or fields n d)
    ∙ ap (λ fs. (old ++ word) ++ flat_map (λ f. comma ∷ see f) fs) (sym (take_more fields n d within))

-- what was added so far
pub grows_twice : (old word more now : List ℕ) → now ≡ (old ++ word) ++ more → Grows old now
grows_twice old word more now e = (word ++ more, e ∙ append_assoc old word more)

pub grows_on : (old mid new more : List ℕ) → Grows old mid → new ≡ mid ++ more → Grows old new
grows_on old mid new more (added, e) next = (added ++ more, next ∙ ap (λ t. t ++ more) e ∙ append_assoc old added more)

pub on_err : {A E P : Type 0} (r : Result A E) → P → OnErr r P
on_err (Ok x) p = tt
on_err (Err e) p = p
