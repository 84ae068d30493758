-- Records as CSV: what a row says, tested in the order of the faults.
use Rattle.std.specs.Prelude.{ℕ, ◌==◌, ◌&&◌, Bool, if◌then◌else◌, List, length, codes}
use Rattle.std.specs.Prelude.{Option, Some, None, option_map, position, Result, Ok, Err, ok_or}
use Rattle.std.specs.List.{list_all}
use Rattle.std.specs.Str.{bytes_eq, is_utf8}
use Rattle.mrp_master_data.specs.Parsing.{spelled_number}
use Rattle.mrp_master_data.specs.declared.numbers.ItemNo.{ItemNo}
use Rattle.mrp_master_data.specs.Table.{Table}
use Rattle.mrp_record.specs.declared.record.Record.{Record}
use Rattle.mrp_record.specs.declared.record.Record.TheVariants.{Line, ItemEnd, Reset, Close}
use Rattle.mrp_validation.specs.Grammar.{◌>>=◌, check, field, is_free}
use Rattle.mrp_record_csv.specs.declared.fault.RecordFaultKind.{RecordFaultKind}
use Rattle.mrp_record_csv.specs.declared.fault.RecordFaultKind.TheVariants as fault
use Rattle.mrp_record_csv.specs.declared.kind.Kind.{Kind}
use Rattle.mrp_record_csv.specs.declared.kind.Kind.TheVariants as kind

abbrev pub record_kind_of : List ℕ → Option Kind
record_kind_of word =
    if bytes_eq word (codes "line") then Some kind.Line
    else if bytes_eq word (codes "end") then Some kind.ItemEnd
    else if bytes_eq word (codes "reset") then Some kind.Reset
    else if bytes_eq word (codes "close") then Some kind.Close
    else None

-- how many of the six fields a kind uses
abbrev pub record_fields_used : Kind → ℕ
record_fields_used kind.Line = 6
record_fields_used kind.ItemEnd = 5
record_fields_used kind.Reset = 4
record_fields_used kind.Close = 2

-- the fields that are not used are empty
abbrev pub record_is_empty_from : List (List ℕ) → ℕ → Bool
record_is_empty_from row used = is_free row used 2 && is_free row used 3 && is_free row used 4 && is_free row used 5

abbrev pub with_record_fields : List (List ℕ) → Kind → Result Kind RecordFaultKind
with_record_fields row k = if record_is_empty_from row (record_fields_used k) then Ok k else Err fault.FieldCount

-- the kind of a row of six fields, of which those that the kind doesn't use are empty
unfoldable pub record_row_kind : List (List ℕ) → Result Kind RecordFaultKind
record_row_kind row = do
  _ ← check (length row == 6) fault.FieldCount
  k ← ok_or (record_kind_of (field row 0)) fault.UnknownKind
  with_record_fields row k

-- a number field
abbrev pub number_field : List (List ℕ) → ℕ → Result ℕ RecordFaultKind
number_field row i = ok_or (spelled_number (field row i)) fault.BadNumber

-- the item of a name
abbrev pub item_named : Table → List ℕ → Option ItemNo
item_named N name = option_map (λ i. record { 0 = i }) (position (bytes_eq name) N.items)

-- the item of a row
abbrev pub item_field : Table → List (List ℕ) → Result ItemNo RecordFaultKind
item_field N row = ok_or (item_named N (field row 2)) fault.UnknownItem

unfoldable pub spelled_line : Table → List (List ℕ) → Result Record RecordFaultKind
spelled_line N row = do
  number ← number_field row 1
  period ← number_field row 3
  quantity ← number_field row 4
  cumulative ← number_field row 5
  item ← item_field N row
  Ok (Line number item period quantity cumulative)

unfoldable pub spelled_end : Table → List (List ℕ) → Result Record RecordFaultKind
spelled_end N row = do
  number ← number_field row 1
  lines ← number_field row 3
  cumulative ← number_field row 4
  item ← item_field N row
  Ok (ItemEnd number item lines cumulative)

unfoldable pub spelled_reset : Table → List (List ℕ) → Result Record RecordFaultKind
spelled_reset N row = do
  number ← number_field row 1
  closed ← number_field row 3
  item ← item_field N row
  Ok (Reset number item closed)

unfoldable pub spelled_close : List (List ℕ) → Result Record RecordFaultKind
spelled_close row = do
  number ← number_field row 1
  Ok (Close number)

-- the record of a row of that kind
abbrev pub of_kind : Table → List (List ℕ) → Kind → Result Record RecordFaultKind
of_kind N row kind.Line = spelled_line N row
of_kind N row kind.ItemEnd = spelled_end N row
of_kind N row kind.Reset = spelled_reset N row
of_kind N row kind.Close = spelled_close row

-- the record of a row whose fields are text
unfoldable pub spelled_record : Table → List (List ℕ) → Result Record RecordFaultKind
spelled_record N row = record_row_kind row >>= of_kind N row

-- the record of a row, or its first fault
unfoldable pub record_of : Table → List (List ℕ) → Result Record RecordFaultKind
record_of N row = do
  _ ← check (list_all is_utf8 row) fault.NotUtf8
  spelled_record N row
