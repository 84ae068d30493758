-- Records as CSV: the row of one, its fields, and its bytes.
use Rattle.std.specs.Prelude.{◌≡◌, ℕ, ◌<◌, List, [], ◌∷◌, ◌++◌, length, codes, All, Option, Some, None, decimal}
use Rattle.std.specs.Prelude.{IfSome}
use Rattle.std.specs.List.{flat_map}
use Rattle.mrp_csv_out.specs.Rows.{row}
use Rattle.mrp_master_data.specs.Parsing.{IsShort}
use Rattle.mrp_master_data.specs.declared.numbers.ItemNo.{ItemNo}
use Rattle.mrp_master_data.specs.Said.{item_name}
use Rattle.mrp_master_data.specs.Table.{Table}
use Rattle.mrp_record.specs.declared.record.Record.{Record}
use Rattle.mrp_record.specs.declared.record.Record.TheVariants.{Line, ItemEnd, Reset, Close}

-- the six fields of each kind of record; those that it doesn't use are empty
abbrev pub line_fields : ℕ → List ℕ → ℕ → ℕ → ℕ → List (List ℕ)
line_fields number name period quantity cumulative =
    codes "line" ∷ decimal number ∷ name ∷ decimal period ∷ decimal quantity ∷ decimal cumulative ∷ []

abbrev pub end_fields : ℕ → List ℕ → ℕ → ℕ → List (List ℕ)
end_fields number name lines cumulative =
    codes "end" ∷ decimal number ∷ name ∷ decimal lines ∷ decimal cumulative ∷ [] ∷ []

abbrev pub reset_record_fields : ℕ → List ℕ → ℕ → List (List ℕ)
reset_record_fields number name closed = codes "reset" ∷ decimal number ∷ name ∷ decimal closed ∷ [] ∷ [] ∷ []

abbrev pub close_fields : ℕ → List (List ℕ)
close_fields number = codes "close" ∷ decimal number ∷ [] ∷ [] ∷ [] ∷ [] ∷ []

-- the fields of a record
abbrev pub record_fields : Table → Record → List (List ℕ)
record_fields N (Line number item period quantity cumulative) =
    line_fields number (item_name N item.0) period quantity cumulative
record_fields N (ItemEnd number item lines cumulative) = end_fields number (item_name N item.0) lines cumulative
record_fields N (Reset number item closed) = reset_record_fields number (item_name N item.0) closed
record_fields N (Close number) = close_fields number

-- the row of a record
abbrev pub record_text : Table → Record → List ℕ
record_text N r = row (record_fields N r)

-- the text of records, a row each
abbrev pub records_text : Table → List Record → List ℕ
records_text N records = flat_map (record_text N) records

-- the numbers of a record
abbrev pub numbers_of : Record → List ℕ
numbers_of (Line number item period quantity cumulative) = number ∷ period ∷ quantity ∷ cumulative ∷ []
numbers_of (ItemEnd number item lines cumulative) = number ∷ lines ∷ cumulative ∷ []
numbers_of (Reset number item closed) = number ∷ closed ∷ []
numbers_of (Close number) = number ∷ []

-- its item; a closing record has none
abbrev pub item_in_record : Record → Option ItemNo
item_in_record (Line number item period quantity cumulative) = Some item
item_in_record (ItemEnd number item lines cumulative) = Some item
item_in_record (Reset number item closed) = Some item
item_in_record (Close number) = None

-- a record that has a row: each number is below 10^16, and its item is one of the network
pub record HasRow (N : Table) (r : Record) : Type 0 where
  pub numbers : All IsShort (numbers_of r)
  pub item : IfSome (item_in_record r) (λ item. item.0 < length N.items)

-- bytes were added at the end
abbrev pub Grows : List ℕ → List ℕ → Type 0
Grows old new = (more : List ℕ) × (new ≡ old ++ more)
