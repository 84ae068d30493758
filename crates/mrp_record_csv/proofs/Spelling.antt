-- Records as CSV: a row that is read as a record is the row of that record.
use Rattle.std.proofs.Common.{◌≡◌, ◌<◌, ◌==◌, ℕ, Bool, true, false, if◌then◌else◌, List, [], ◌∷◌, length, codes, Some, None, Result, Ok, Err, refl, ap, subst}
use Rattle.std.proofs.Common.{◌∙◌, arith}
use Rattle.std.specs.List.{All, list_all}
use Rattle.std.specs.Str.{bytes_eq, is_utf8}
use Rattle.std.proofs.lemmas.List.Elements.{All-cons, All-nil}
use Rattle.std.proofs.lemmas.Bool.{eqb-true}
use Rattle.std.proofs.lemmas.Option.{same_Some}
use Rattle.std.proofs.lemmas.Slice.Eq.{bytes_eq-Decides}
use Rattle.std.proofs.lemmas.Str.{is_utf8-from_IsUtf8}
use Rattle.std.specs.Prelude.{decimal}
use Rattle.csv.specs.Records.{AllText, field_at}
use Rattle.mrp_master_data.specs.Parsing.{IsShort, spelled_number}
use Rattle.mrp_master_data.proofs.Decimals.{number-spelled}
use Rattle.mrp_master_data.specs.declared.numbers.ItemNo.{ItemNo}
use Rattle.mrp_master_data.specs.Table.{Table}
use Rattle.mrp_record.specs.declared.record.Record.{Record}
use Rattle.mrp_validation.specs.Grammar.{◌>>=◌, field, is_empty}
use Rattle.mrp_validation.proofs.KeepingSteps.{after, after_check, after_some, same_Ok}
use Rattle.mrp_master_data.specs.Said.{item_name}
use Rattle.mrp_record_csv.specs.declared.fault.RecordFaultKind.{RecordFaultKind}
use Rattle.mrp_record_csv.specs.declared.fault.RecordFaultKind.TheVariants as fault
use Rattle.mrp_record_csv.specs.declared.kind.Kind.{Kind}
use Rattle.mrp_record_csv.specs.declared.kind.Kind.TheVariants as kind
use Rattle.mrp_record_csv.specs.Rows.{HasRow, record_fields}
use Rattle.mrp_record_csv.specs.Grammar.{spelled_close, spelled_end, record_is_empty_from, item_field, item_named, record_kind_of, spelled_line, number_field}
use Rattle.mrp_record_csv.specs.Grammar.{of_kind, record_of, spelled_reset, record_row_kind, spelled_record, record_fields_used, with_record_fields}
use Rattle.mrp_record_csv.proofs.Bytes.{both_true}
use Rattle.mrp_record_csv.proofs.Names.{name_of_item}

-- ---- the kind of a row

abbrev pub word_of : Kind → List ℕ
word_of kind.Line = codes "line"
word_of kind.ItemEnd = codes "end"
word_of kind.Reset = codes "reset"
word_of kind.Close = codes "close"

found_word : (word : List ℕ) (k l : Kind) → bytes_eq word (word_of l) ≡ true → Some l ≡ Some k → word ≡ word_of k
found_word word k l test e = (bytes_eq-Decides word (word_of l)).0 test ∙ ap word_of (same_Some l k e)

kind_word : (word : List ℕ) (k : Kind) → record_kind_of word ≡ Some k → word ≡ word_of k
kind_word word k e = by (bytes_eq word (codes "line")) (bytes_eq word (codes "end")) (bytes_eq word (codes "reset"))
    (bytes_eq word (codes "close")) refl refl refl refl e
  where
    by : (a b c d : Bool) → bytes_eq word (codes "line") ≡ a → bytes_eq word (codes "end") ≡ b → bytes_eq word (codes "reset") ≡ c
        → bytes_eq word (codes "close") ≡ d
        → (if a then Some kind.Line else if b then Some kind.ItemEnd else if c then Some kind.Reset else if d then Some kind.Close else None) ≡ Some k
        → word ≡ word_of k
    by true b c d ea eb ec ed e = found_word word k kind.Line ea e
    by false true c d ea eb ec ed e = found_word word k kind.ItemEnd eb e
    by false false true d ea eb ec ed e = found_word word k kind.Reset ec e
    by false false false true ea eb ec ed e = found_word word k kind.Close ed e
    by false false false false ea eb ec ed e = absurd (cc)

-- six fields, of which those that the kind doesn't use are empty
pub record IsOfKind (row : List (List ℕ)) (k : Kind) : Type 0 where
  pub six : (length row == 6) ≡ true
  pub word : field row 0 ≡ word_of k
  pub free : record_is_empty_from row (record_fields_used k) ≡ true

free_kind : (row : List (List ℕ)) (k l : Kind) → with_record_fields row l ≡ Ok k → (record_is_empty_from row (record_fields_used k) ≡ true) × (l ≡ k)
free_kind row k l e = by (record_is_empty_from row (record_fields_used l)) refl e
  where
    by : (b : Bool) → record_is_empty_from row (record_fields_used l) ≡ b → (if b then Ok l else Err fault.FieldCount) ≡ Ok k
        → (record_is_empty_from row (record_fields_used k) ≡ true) × (l ≡ k)
    by true free e = let same : l ≡ k = cc in (subst (λ m. record_is_empty_from row (record_fields_used m) ≡ true) same free, same)
    by false free e = absurd (cc)

kind_is : (row : List (List ℕ)) (k : Kind) → record_row_kind row ≡ Ok k → IsOfKind row k
unfolding record_row_kind
kind_is row k e =
    let counted = after_check (length row == 6) _ _ k e in
    let named = after_some (record_kind_of (field row 0)) _ _ k counted.1 in
    let free = free_kind row k named.0 named.2 in
    record {
      six = counted.0;
      word = kind_word (field row 0) k (named.1 ∙ ap (λ (l : Kind). Some l) free.1);
      free = free.0;
    }

-- ---- the fields of a row

six_fields : (row : List (List ℕ)) → (length row == 6) ≡ true → row ≡ field row 0 ∷ field row 1 ∷ field row 2 ∷ field row 3 ∷ field row 4 ∷ field row 5 ∷ []
unfolding field_at
six_fields [] e = absurd (cc)
six_fields (a ∷ []) e = absurd (cc)
six_fields (a ∷ b ∷ []) e = absurd (cc)
six_fields (a ∷ b ∷ c ∷ []) e = absurd (cc)
six_fields (a ∷ b ∷ c ∷ d ∷ []) e = absurd (cc)
six_fields (a ∷ b ∷ c ∷ d ∷ x ∷ []) e = absurd (cc)
six_fields (a ∷ b ∷ c ∷ d ∷ x ∷ y ∷ []) e = refl
six_fields (a ∷ b ∷ c ∷ d ∷ x ∷ y ∷ z ∷ rest) e = let same = eqb-true (length (a ∷ b ∷ c ∷ d ∷ x ∷ y ∷ z ∷ rest)) 6 e in absurd (omega (arith, same))

row_is : (row : List (List ℕ)) (a b c d x y : List ℕ) → (length row == 6) ≡ true → field row 0 ≡ a → field row 1 ≡ b → field row 2 ≡ c → field row 3 ≡ d
    → field row 4 ≡ x → field row 5 ≡ y
    → row ≡ a ∷ b ∷ c ∷ d ∷ x ∷ y ∷ []
row_is row a b c d x y six ea eb ec ed ex ey = six_fields row six ∙ rw (ea, eb, ec, ed, ex, ey) refl

empty_is : (text : List ℕ) → is_empty text ≡ true → text ≡ []
empty_is [] e = refl
empty_is (b ∷ bs) e = let same = eqb-true (length (b ∷ bs)) 0 e in absurd (omega (arith, same))

-- a number field, its number and what is made with it of the rest
record NumberRead (row : List (List ℕ)) (i : ℕ) (made : ℕ → Result Record RecordFaultKind) (r : Record) : Type 0 where
  number : ℕ
  field_is : field row i ≡ decimal number
  short : IsShort number
  rest : made number ≡ Ok r

number_read : (row : List (List ℕ)) (i : ℕ) (made : ℕ → Result Record RecordFaultKind) (r : Record) → (number_field row i >>= made) ≡ Ok r
    → NumberRead row i made r
number_read row i made r e =
    let n = after_some (spelled_number (field row i)) _ made r e in
    let is = number-spelled (field row i) n.0 n.1 in
    record { number = n.0; field_is = is.0; short = is.1; rest = n.2 }

-- the two numbers of each record on an item
two_read : (row : List (List ℕ)) (made : ℕ → ℕ → Result Record RecordFaultKind) (r : Record)
    → (number_field row 1 >>= λ n. number_field row 3 >>= λ m. made n m) ≡ Ok r
    → (n : NumberRead row 1 (λ n. number_field row 3 >>= λ m. made n m) r) × NumberRead row 3 (made n.number) r
two_read row made r e = let n = number_read row 1 (λ n. number_field row 3 >>= λ m. made n m) r e in (n, number_read row 3 (made n.number) r n.rest)

-- the item of a row, and the record that is made with it
record ItemRead (N : Table) (row : List (List ℕ)) (made : ItemNo → Record) (r : Record) : Type 0 where
  item : ItemNo
  there : item.0 < length N.items
  field_is : field row 2 ≡ item_name N item.0
  is_made : made item ≡ r

item_read : (N : Table) (row : List (List ℕ)) (made : ItemNo → Record) (r : Record) → (item_field N row >>= λ item. Ok (made item)) ≡ Ok r
    → ItemRead N row made r
item_read N row made r e =
    let i = after_some (item_named N (field row 2)) _ _ r e in
    let is = name_of_item N (field row 2) i.0 i.1 in
    record { item = i.0; there = is.0; field_is = is.1; is_made = same_Ok _ r i.2 }

-- short numbers
short_one : (a : ℕ) → IsShort a → All IsShort (a ∷ [])
short_one a sa = All-cons IsShort a [] sa (All-nil IsShort)

short_two : (a b : ℕ) → IsShort a → IsShort b → All IsShort (a ∷ b ∷ [])
short_two a b sa sb = All-cons IsShort a (b ∷ []) sa (short_one b sb)

short_three : (a b c : ℕ) → IsShort a → IsShort b → IsShort c → All IsShort (a ∷ b ∷ c ∷ [])
short_three a b c sa sb sc = All-cons IsShort a (b ∷ c ∷ []) sa (short_two b c sb sc)

short_four : (a b c d : ℕ) → IsShort a → IsShort b → IsShort c → IsShort d → All IsShort (a ∷ b ∷ c ∷ d ∷ [])
short_four a b c d sa sb sc sd = All-cons IsShort a (b ∷ c ∷ d ∷ []) sa (short_three b c d sb sc sd)

-- ---- each kind of record

abbrev Spells : Table → List (List ℕ) → Record → Type 0
Spells N row r = HasRow N r × (row ≡ record_fields N r)

line_is : (N : Table) (row : List (List ℕ)) (r : Record) → IsOfKind row kind.Line → spelled_line N row ≡ Ok r → Spells N row r
unfolding spelled_line
line_is N row r k e =
    let two = two_read row _ r e in
    let q = number_read row 4 _ r two.1.rest in
    let c = number_read row 5 _ r q.rest in
    let i = item_read N row _ r c.rest in
    subst (Spells N row) i.is_made (
      record { numbers = short_four two.0.number two.1.number q.number c.number two.0.short two.1.short q.short c.short; item = i.there },
      row_is row _ _ _ _ _ _ k.six k.word two.0.field_is i.field_is two.1.field_is q.field_is c.field_is,
    )

end_is : (N : Table) (row : List (List ℕ)) (r : Record) → IsOfKind row kind.ItemEnd → spelled_end N row ≡ Ok r → Spells N row r
unfolding spelled_end
end_is N row r k e =
    let two = two_read row _ r e in
    let c = number_read row 4 _ r two.1.rest in
    let i = item_read N row _ r c.rest in
    subst (Spells N row) i.is_made (
      record { numbers = short_three two.0.number two.1.number c.number two.0.short two.1.short c.short; item = i.there },
      row_is row _ _ _ _ _ _ k.six k.word two.0.field_is i.field_is two.1.field_is c.field_is (empty_is (field row 5) k.free),
    )

reset_is : (N : Table) (row : List (List ℕ)) (r : Record) → IsOfKind row kind.Reset → spelled_reset N row ≡ Ok r → Spells N row r
unfolding spelled_reset
reset_is N row r k e =
    let two = two_read row _ r e in
    let i = item_read N row _ r two.1.rest in
    let free = both_true (is_empty (field row 4)) (is_empty (field row 5)) k.free in
    subst (Spells N row) i.is_made (
      record { numbers = short_two two.0.number two.1.number two.0.short two.1.short; item = i.there },
      row_is row _ _ _ _ _ _ k.six k.word two.0.field_is i.field_is two.1.field_is (empty_is (field row 4) free.0) (empty_is (field row 5) free.1),
    )

close_is : (N : Table) (row : List (List ℕ)) (r : Record) → IsOfKind row kind.Close → spelled_close row ≡ Ok r → Spells N row r
unfolding spelled_close
close_is N row r k e =
    let n = number_read row 1 _ r e in
    let five = both_true _ (is_empty (field row 5)) k.free in
    let four = both_true _ (is_empty (field row 4)) five.0 in
    let three = both_true (is_empty (field row 2)) (is_empty (field row 3)) four.0 in
    subst (Spells N row) (same_Ok _ r n.rest) (
      record { numbers = short_one n.number n.short; item = tt },
      row_is row _ _ _ _ _ _ k.six k.word n.field_is (empty_is (field row 2) three.0) (empty_is (field row 3) three.1) (empty_is (field row 4) four.1)
          (empty_is (field row 5) five.1),
    )

of_kind_is : (N : Table) (row : List (List ℕ)) (r : Record) (k : Kind) → IsOfKind row k → of_kind N row k ≡ Ok r → Spells N row r
of_kind_is N row r kind.Line k e = line_is N row r k e
of_kind_is N row r kind.ItemEnd k e = end_is N row r k e
of_kind_is N row r kind.Reset k e = reset_is N row r k e
of_kind_is N row r kind.Close k e = close_is N row r k e

-- what is read as a record is its row
pub spelled_is : (N : Table) (row : List (List ℕ)) (r : Record) → spelled_record N row ≡ Ok r → HasRow N r × (row ≡ record_fields N r)
unfolding spelled_record
spelled_is N row r e = let k = after (record_row_kind row) (of_kind N row) r e in of_kind_is N row r k.0 (kind_is row k.0 k.1) k.2

pub record_is : (N : Table) (row : List (List ℕ)) (r : Record) → record_of N row ≡ Ok r → HasRow N r × (row ≡ record_fields N r)
unfolding record_of
record_is N row r e = spelled_is N row r (after_check (list_all is_utf8 row) _ _ r e).1

-- a row whose fields are text
all_utf8 : (row : List (List ℕ)) → AllText row → list_all is_utf8 row ≡ true
unfolding AllText
all_utf8 [] text = refl
all_utf8 (f ∷ fs) text = rw (is_utf8-from_IsUtf8 f text.0) (all_utf8 fs text.1)

pub text_record : (N : Table) (row : List (List ℕ)) → AllText row → record_of N row ≡ spelled_record N row
unfolding record_of
text_record N row text = rw (all_utf8 row text) refl
