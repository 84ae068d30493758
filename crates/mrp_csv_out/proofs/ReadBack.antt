-- CSV output: what csv reads of rows of plain fields, which is those fields.
use Rattle.std.proofs.Common.{◌≡◌, ◌≤◌, ◌<◌, ◌+◌, ℕ, zero, suc, List, [], ◌∷◌, ◌++◌, Some, None, length, map, All, refl, sym, ap, subst, ◌∙◌, arith}
use Rattle.std.proofs.Common.{length-append}
use Rattle.std.specs.List.{flat_map}
use Rattle.std.proofs.lemmas.Grind.{flat_map-append}
use Rattle.std.proofs.lemmas.List.Elements.{All-append, All-head, All-map, All-nil, All-tail}
use Rattle.std.proofs.lemmas.List.Folds.{flat_map-map}
use Rattle.csv.proofs.RoundTrip.{read-write-many}
use Rattle.csv.specs.Machine.{line_feed, next_record}
use Rattle.csv.specs.Reading.{default_config, records_from, strip_bom}
use Rattle.csv.specs.Writing.{comma, default_writer, field_text, fields_text, is_blank, row_text}
use Rattle.csv.specs.declared.parser.State.TheVariants as st
use Rattle.mrp_csv_out.specs.Rows.{row}
use Rattle.mrp_csv_out.specs.Writing.{joined, plain_writer}
use Rattle.mrp_csv_out.specs.Sheets.{IsPlain, IsReadAs, Sheet}
use Rattle.mrp_csv_out.proofs.RowFacts.{row_plain}

-- a row of two plain fields and more, which begins with no byte order mark
pub record IsRow (fields : List (List ℕ)) : Type 0 where
  pub plain : All IsPlain fields
  pub many : 2 ≤ length fields
  pub front : (rest : List ℕ) → strip_bom (row fields ++ rest) ≡ row fields ++ rest

field_same : (field : List ℕ) → IsPlain field → field_text default_writer field ≡ field
field_same field plain = rw plain refl

fields_same : (fields : List (List ℕ)) → All IsPlain fields → fields_text default_writer fields ≡ fields_text plain_writer fields
unfolding fields_text
fields_same [] plain = refl
fields_same (field ∷ rest) plain =
    ap (λ t. comma ∷ t) (ap (λ t. t ++ fields_text default_writer rest) (field_same field (All-head IsPlain field rest plain))
    ∙ ap (λ t. field ++ t) (fields_same rest (All-tail IsPlain field rest plain)))

-- csv's writer gives them no quotes
row_same : (first next : List ℕ) (rest : List (List ℕ)) → All IsPlain (first ∷ next ∷ rest)
    → row_text default_writer (first ∷ next ∷ rest) ≡ row (first ∷ next ∷ rest)
unfolding is_blank
row_same first next rest plain =
    ap (λ t. t ++ line_feed ∷ []) (ap (λ t. t ++ fields_text default_writer (next ∷ rest)) (field_same first (All-head IsPlain first (next ∷ rest) plain))
    ∙ ap (λ t. first ++ t) (fields_same (next ∷ rest) (All-tail IsPlain first (next ∷ rest) plain)))
    ∙ row_plain (first ∷ next ∷ rest) (omega arith)

row_read : (fields : List (List ℕ)) (tail : List ℕ) → IsRow fields
    → next_record default_config st.StartRecord [] [] (row fields ++ tail) ≡ Some (fields, st.StartRecord, tail)
row_read [] tail is = let few = is.many in absurd (omega arith)
row_read (first ∷ []) tail is = let few = is.many in absurd (omega arith)
row_read (first ∷ next ∷ rest) tail is =
    subst (λ (t : List ℕ). next_record default_config st.StartRecord [] [] (t ++ tail) ≡ Some (first ∷ next ∷ rest, st.StartRecord, tail))
    (row_same first next rest is.plain) (read-write-many first next rest tail)

end_read : next_record default_config st.StartRecord [] [] [] ≡ None
unfolding next_record
end_read = refl

rows_read : (n : ℕ) (sheet : Sheet) → length sheet < n → All IsRow sheet → records_from default_config n st.StartRecord (flat_map row sheet) ≡ sheet
unfolding records_from
rows_read zero sheet lt all = absurd (omega arith)
rows_read (suc n) [] lt all = rw end_read refl
rows_read (suc n) (fields ∷ sheet) lt all =
    rw (row_read fields (flat_map row sheet) (All-head IsRow fields sheet all))
    (ap (λ (rest : Sheet). fields ∷ rest) (rows_read n sheet (omega arith) (All-tail IsRow fields sheet all)))

rows_long : (sheet : Sheet) → length sheet ≤ length (flat_map row sheet)
unfolding row
rows_long [] = omega arith
rows_long (fields ∷ sheet) =
    omega (arith, rows_long sheet, length-append (joined fields ++ line_feed ∷ []) (flat_map row sheet), length-append (joined fields) (line_feed ∷ []))

front_kept : (sheet : Sheet) → All IsRow sheet → strip_bom (flat_map row sheet) ≡ flat_map row sheet
unfolding strip_bom
front_kept [] all = refl
front_kept (fields ∷ sheet) all = (All-head IsRow fields sheet all).front (flat_map row sheet)

-- a text of such rows is read as their fields
pub sheet_read : (text : List ℕ) (sheet : Sheet) → text ≡ flat_map row sheet → All IsRow sheet → IsReadAs text sheet
sheet_read text sheet same all =
    subst (λ (t : List ℕ). IsReadAs t sheet) (sym same) (record {
      plain = λ k d lt. (all k d lt).plain;
      read = rw (front_kept sheet all) (rows_read (length (flat_map row sheet) + 1) sheet (omega (arith, rows_long sheet)) all);
    })

-- rows of each element, and a row of each
pub rows_each : {X : Type 0} (text : X → List ℕ) (sheet : X → Sheet) → ((x : X) → text x ≡ flat_map row (sheet x)) → (xs : List X)
    → flat_map text xs ≡ flat_map row (flat_map sheet xs)
rows_each text sheet same [] = refl
rows_each text sheet same (x ∷ xs) =
    ap (λ t. t ++ flat_map text xs) (same x) ∙ ap (λ t. flat_map row (sheet x) ++ t) (rows_each text sheet same xs)
    ∙ sym (flat_map-append row (sheet x) (flat_map sheet xs))

pub row_each : {X : Type 0} (fields : X → List (List ℕ)) (xs : List X) → flat_map (λ x. row (fields x)) xs ≡ flat_map row (map fields xs)
row_each fields xs = sym (flat_map-map row fields xs)

pub all_each : {X : Type 0} (sheet : X → Sheet) → ((x : X) → All IsRow (sheet x)) → (xs : List X) → All IsRow (flat_map sheet xs)
all_each sheet each [] = All-nil IsRow
all_each sheet each (x ∷ xs) = All-append IsRow (sheet x) (flat_map sheet xs) (each x) (all_each sheet each xs)

pub all_map : {X : Type 0} (fields : X → List (List ℕ)) → ((x : X) → IsRow (fields x)) → (xs : List X) → All IsRow (map fields xs)
all_map fields each xs = All-map IsRow fields xs (λ k d lt. each _)
