-- Records as CSV: the row of one, read back.
use Rattle.std.proofs.Common.{◌≡◌, ◌<◌, ℕ, true, List, [], ◌∷◌, ◌++◌, length, map, codes, Some, Ok, refl, sym, ap, ◌∙◌, append-nil}
use Rattle.std.specs.List.{All, join_with_byte, list_all}
use Rattle.std.specs.Str.{is_utf8}
use Rattle.std.proofs.lemmas.List.Elements.{All-get_or, All-head, All-tail}
use Rattle.mrp_csv_out.specs.Rows.{row}
use Rattle.csv.specs.Machine.{line_feed, next_record}
use Rattle.csv.specs.Reading.{default_config, records, strip_bom}
use Rattle.csv.specs.Records.{field_at}
use Rattle.csv.specs.Writing.{comma, default_writer, fields_text, is_blank, row_text}
use Rattle.csv.specs.declared.parser.State.TheVariants.{StartRecord}
use Rattle.csv.proofs.RoundTrip.{read-write-many}
use Rattle.mrp_master_data.specs.Parsing.{IsShort, spelled_number}
use Rattle.mrp_master_data.proofs.Decimals.{number-written}
use Rattle.mrp_master_data.specs.declared.numbers.ItemNo.{ItemNo}
use Rattle.mrp_master_data.specs.Table.{IsName, IsTable, Table}
use Rattle.mrp_record.specs.declared.record.Record.{Record}
use Rattle.mrp_record.specs.declared.record.Record.TheVariants.{Line, ItemEnd, Reset, Close}
use Rattle.mrp_validation.proofs.Records.{none_left, one_left}
use Rattle.mrp_master_data.specs.Said.{item_name}
use Rattle.mrp_record_csv.specs.Rows.{HasRow, record_fields, record_text, records_text}
use Rattle.mrp_record_csv.specs.Grammar.{spelled_close, spelled_end, item_named, spelled_line, record_of, spelled_reset, record_row_kind, spelled_record}
use Rattle.mrp_record_csv.proofs.Bytes.{IsPlain, name_plain, decimal_plain, plain_unquoted, plain_utf8}
use Rattle.mrp_record_csv.proofs.Names.{item_of_name}

-- ---- the record of its own row

-- each field has bytes of names alone
abbrev pub AllPlain : List (List ℕ) → Type 0
AllPlain [] = Unit {0}
AllPlain (f ∷ fs) = IsPlain f × AllPlain fs

plain_text : (fields : List (List ℕ)) → AllPlain fields → list_all is_utf8 fields ≡ true
plain_text [] plain = refl
plain_text (f ∷ fs) plain = rw (plain_utf8 f plain.0) (plain_text fs plain.1)

two_short : (a b : ℕ) → All IsShort (a ∷ b ∷ []) → IsShort a × IsShort b
two_short a b h = (All-head IsShort a (b ∷ []) h, All-head IsShort b [] (All-tail IsShort a (b ∷ []) h))

three_short : (a b c : ℕ) → All IsShort (a ∷ b ∷ c ∷ []) → IsShort a × IsShort b × IsShort c
three_short a b c h = let t = two_short b c (All-tail IsShort a (b ∷ c ∷ []) h) in (All-head IsShort a (b ∷ c ∷ []) h, t.0, t.1)

four_short : (a b c d : ℕ) → All IsShort (a ∷ b ∷ c ∷ d ∷ []) → IsShort a × IsShort b × IsShort c × IsShort d
four_short a b c d h = let t = three_short b c d (All-tail IsShort a (b ∷ c ∷ d ∷ []) h) in (All-head IsShort a (b ∷ c ∷ d ∷ []) h, t.0, t.1, t.2)

item_plain : (N : Table) (item : ItemNo) → IsTable N → item.0 < length N.items → IsPlain (item_name N item.0)
item_plain N item is within = name_plain (item_name N item.0) (All-get_or IsName N.items item.0 [] within is.read.items)

pub record_plain : (N : Table) (r : Record) → IsTable N → HasRow N r → AllPlain (record_fields N r)
record_plain N (Line number item period quantity cumulative) is has =
    let s = four_short number period quantity cumulative has.numbers in (
      refl,
      (
        decimal_plain number s.0,
        (
          item_plain N item is has.item,
          (decimal_plain period s.1, (decimal_plain quantity s.2, (decimal_plain cumulative s.3, tt))),
        ),
      ),
    )
record_plain N (ItemEnd number item lines cumulative) is has =
    let s = three_short number lines cumulative has.numbers in
    (refl, (decimal_plain number s.0, (item_plain N item is has.item, (decimal_plain lines s.1, (decimal_plain cumulative s.2, (refl, tt))))))
record_plain N (Reset number item closed) is has =
    let s = two_short number closed has.numbers in
    (refl, (decimal_plain number s.0, (item_plain N item is has.item, (decimal_plain closed s.1, (refl, (refl, tt))))))
record_plain N (Close number) is has =
    (refl, (decimal_plain number (All-head IsShort number [] has.numbers), (refl, (refl, (refl, (refl, tt))))))

line_read : (N : Table) (a b c d e : List ℕ) (number : ℕ) (item : ItemNo) (period quantity cumulative : ℕ) → spelled_number a ≡ Some number
    → item_named N b ≡ Some item → spelled_number c ≡ Some period
    → spelled_number d ≡ Some quantity → spelled_number e ≡ Some cumulative
    → spelled_record N (codes "line" ∷ a ∷ b ∷ c ∷ d ∷ e ∷ []) ≡ Ok (Line number item period quantity cumulative)
unfolding spelled_record record_row_kind spelled_line field_at
line_read N a b c d e number item period quantity cumulative ha hb hc hd he = rw (ha, hc, hd, he, hb) refl

end_read : (N : Table) (a b c d : List ℕ) (number : ℕ) (item : ItemNo) (lines cumulative : ℕ) → spelled_number a ≡ Some number → item_named N b ≡ Some item
    → spelled_number c ≡ Some lines
    → spelled_number d ≡ Some cumulative → spelled_record N (codes "end" ∷ a ∷ b ∷ c ∷ d ∷ [] ∷ []) ≡ Ok (ItemEnd number item lines cumulative)
unfolding spelled_record record_row_kind spelled_end field_at
end_read N a b c d number item lines cumulative ha hb hc hd = rw (ha, hc, hd, hb) refl

reset_read : (N : Table) (a b c : List ℕ) (number : ℕ) (item : ItemNo) (closed : ℕ) → spelled_number a ≡ Some number → item_named N b ≡ Some item
    → spelled_number c ≡ Some closed
    → spelled_record N (codes "reset" ∷ a ∷ b ∷ c ∷ [] ∷ [] ∷ []) ≡ Ok (Reset number item closed)
unfolding spelled_record record_row_kind spelled_reset field_at
reset_read N a b c number item closed ha hb hc = rw (ha, hc, hb) refl

close_read : (N : Table) (a : List ℕ) (number : ℕ) → spelled_number a ≡ Some number
    → spelled_record N (codes "close" ∷ a ∷ [] ∷ [] ∷ [] ∷ [] ∷ []) ≡ Ok (Close number)
unfolding spelled_record record_row_kind spelled_close field_at
close_read N a number ha = rw ha refl

spelled_read : (N : Table) (r : Record) → IsTable N → HasRow N r → spelled_record N (record_fields N r) ≡ Ok r
spelled_read N (Line number item period quantity cumulative) is has =
    let s = four_short number period quantity cumulative has.numbers in
    line_read N _ _ _ _ _ number item period quantity cumulative (number-written number s.0) (item_of_name N item is has.item) (number-written period s.1)
    (number-written quantity s.2) (number-written cumulative s.3)
spelled_read N (ItemEnd number item lines cumulative) is has =
    let s = three_short number lines cumulative has.numbers in
    end_read N _ _ _ _ number item lines cumulative (number-written number s.0) (item_of_name N item is has.item) (number-written lines s.1)
    (number-written cumulative s.2)
spelled_read N (Reset number item closed) is has =
    let s = two_short number closed has.numbers in
    reset_read N _ _ _ number item closed (number-written number s.0) (item_of_name N item is has.item) (number-written closed s.1)
spelled_read N (Close number) is has = close_read N _ number (number-written number (All-head IsShort number [] has.numbers))

pub record_read : (N : Table) (r : Record) → IsTable N → HasRow N r → record_of N (record_fields N r) ≡ Ok r
unfolding record_of
record_read N r is has = rw (plain_text (record_fields N r) (record_plain N r is has)) (spelled_read N r is has)

-- ---- the row as csv writes it

fields_plain : (first : List ℕ) (fields : List (List ℕ)) → AllPlain fields → first ++ fields_text default_writer fields ≡ join_with_byte comma (first ∷ fields)
unfolding fields_text
fields_plain first [] plain = append-nil first
fields_plain first (f ∷ fs) plain = rw (plain_unquoted f plain.0) (ap (λ t. first ++ comma ∷ t) (fields_plain f fs plain.1))

row_plain : (x y : List ℕ) (ys : List (List ℕ)) → AllPlain (x ∷ y ∷ ys) → row_text default_writer (x ∷ y ∷ ys) ≡ row (x ∷ y ∷ ys)
unfolding row is_blank
row_plain x y ys plain = rw (plain_unquoted x plain.0) (ap (λ t. t ++ line_feed ∷ []) (fields_plain x (y ∷ ys) plain.1))

row_next : (x y : List ℕ) (ys : List (List ℕ)) (tail : List ℕ) → AllPlain (x ∷ y ∷ ys)
    → next_record default_config StartRecord [] [] (row (x ∷ y ∷ ys) ++ tail) ≡ Some (x ∷ y ∷ ys, StartRecord, tail)
row_next x y ys tail plain = ap (λ t. next_record default_config StartRecord [] [] (t ++ tail)) (sym (row_plain x y ys plain)) ∙ read-write-many x y ys tail

pub record_next : (N : Table) (r : Record) (tail : List ℕ) → IsTable N → HasRow N r
    → next_record default_config StartRecord [] [] (record_text N r ++ tail) ≡ Some (record_fields N r, StartRecord, tail)
record_next N (Line number item period quantity cumulative) tail is has =
    row_next _ _ _ tail (record_plain N (Line number item period quantity cumulative) is has)
record_next N (ItemEnd number item lines cumulative) tail is has = row_next _ _ _ tail (record_plain N (ItemEnd number item lines cumulative) is has)
record_next N (Reset number item closed) tail is has = row_next _ _ _ tail (record_plain N (Reset number item closed) is has)
record_next N (Close number) tail is has = row_next _ _ _ tail (record_plain N (Close number) is has)

-- ---- all rows

none_more : records default_config [] ≡ []
unfolding next_record
none_more = none_left default_config StartRecord [] refl

rows_read : (N : Table) (written : List Record) → IsTable N → All (HasRow N) written
    → records default_config (records_text N written) ≡ map (record_fields N) written
rows_read N [] is have = none_more
rows_read N (r ∷ rs) is have =
    one_left default_config StartRecord (records_text N (r ∷ rs)) (record_fields N r, StartRecord, records_text N rs)
    (record_next N r (records_text N rs) is (All-head (HasRow N) r rs have))
    ∙ ap (λ rows. record_fields N r ∷ rows) (rows_read N rs is (All-tail (HasRow N) r rs have))

-- no text of records begins with a byte order mark
no_mark : (N : Table) (written : List Record) → strip_bom (records_text N written) ≡ records_text N written
unfolding strip_bom row
no_mark N [] = refl
no_mark N (Line number item period quantity cumulative ∷ rs) = refl
no_mark N (ItemEnd number item lines cumulative ∷ rs) = refl
no_mark N (Reset number item closed ∷ rs) = refl
no_mark N (Close number ∷ rs) = refl

pub written_rows : (N : Table) (written : List Record) → IsTable N → All (HasRow N) written
    → records default_config (strip_bom (records_text N written)) ≡ map (record_fields N) written
written_rows N written is have = ap (records default_config) (no_mark N written) ∙ rows_read N written is have
