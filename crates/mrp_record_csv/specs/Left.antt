-- Records as CSV: the rows that a reader has left, and what the steps of the reading answer of them.
use Rattle.std.specs.Prelude.{◌≡◌, ◌⊎◌, ℕ, ◌<◌, Bool, true, false, List, [], ◌∷◌, ◌++◌, length, map, Option, Some, None}
use Rattle.std.specs.Prelude.{Result, Ok, Err}
use Rattle.csv.specs.declared.error.ErrorKind.{ErrorKind}
use Rattle.csv.specs.declared.error.ErrorKind.TheVariants as error
use Rattle.mrp_master_data.specs.Table.{Table}
use Rattle.mrp_record.specs.declared.record.Record.{Record}
use Rattle.mrp_validation.specs.Left.{OfLeft, TakesRow}
use Rattle.mrp_record_csv.specs.declared.fault.RecordFaultKind.{RecordFaultKind}
use Rattle.mrp_record_csv.specs.declared.fault.RecordFaultKind.TheVariants as fault
use Rattle.mrp_record_csv.specs.Rows.{HasRow, record_fields}
use Rattle.mrp_record_csv.specs.Reading.{StartsWithFault}

-- what an error of the reading is called; those that can't come have any name
abbrev pub record_fault_of : ErrorKind → RecordFaultKind
record_fault_of (error.Io e) = fault.ReadFault
record_fault_of (error.Utf8 pos e) = fault.NotUtf8
record_fault_of (error.UnequalLengths pos expected len) = fault.ReadFault
record_fault_of (error.Serialize text) = fault.ReadFault
record_fault_of (error.Deserialize pos e) = fault.ReadFault
record_fault_of error.OutOfMemory = fault.Memory

-- a fault is ReadFault only where the reader has failed, or where all rows that may be read were read, and there are
-- more than so many
abbrev pub StopsReading : RecordFaultKind → Bool → Type 0 → ℕ → Option (List (List (List ℕ))) → Type 0
StopsReading kind failed full most left = kind ≡ fault.ReadFault
    → (failed ≡ true) ⊎ (full × OfLeft left (λ rows. most < length rows))

-- a row that isn't text has that as its first fault
abbrev pub TellsBad : Table → Option (List (List (List ℕ))) → RecordFaultKind → Type 0
TellsBad N before fault.ReadFault = Unit {0}
TellsBad N before fault.Memory = Unit {0}
TellsBad N before k = OfLeft before (λ rows. StartsWithFault N rows k)

-- what taking a row answers
abbrev pub TellsTakenRecord : Table → Option (List (List (List ℕ))) → Option (List (List (List ℕ))) → List (List ℕ)
    → Result Bool RecordFaultKind → Type 0
TellsTakenRecord N before after row (Ok true) = TakesRow before after row
TellsTakenRecord N before after row (Ok false) = OfLeft before (λ rows. rows ≡ [])
TellsTakenRecord N before after row (Err k) = TellsBad N before k

-- the answer is of a row, good or bad
abbrev pub is_of_row : Result Bool RecordFaultKind → Bool
is_of_row (Ok found) = found
is_of_row (Err fault.ReadFault) = false
is_of_row (Err fault.Memory) = false
is_of_row (Err k) = true

-- the record of the next row is put behind the others
pub record AddsRecord (most : ℕ) (N : Table) (before after : Option (List (List (List ℕ)))) (old new : List Record) : Type 0 where
  pub added : Record
  pub has_row : HasRow N added
  pub takes : TakesRow before after (record_fields N added)
  pub records : new ≡ old ++ added ∷ []
  pub room : length old < most

-- after so many records, what reading one more answers
abbrev pub TellsRecordFault : ℕ → Table → Option (List (List (List ℕ))) → ℕ → RecordFaultKind → Type 0
TellsRecordFault most N before count fault.ReadFault = Unit {0}
TellsRecordFault most N before count fault.Memory = Unit {0}
TellsRecordFault most N before count k = (count < most) × OfLeft before (λ rows. StartsWithFault N rows k)

abbrev pub TellsNextRecord : ℕ → Table → Option (List (List (List ℕ))) → Option (List (List (List ℕ))) → List Record
    → List Record
    → Result Bool RecordFaultKind → Type 0
TellsNextRecord most N before after old new (Ok true) = AddsRecord most N before after old new
TellsNextRecord most N before after old new (Ok false) = (new ≡ old) × OfLeft before (λ rows. rows ≡ [])
TellsNextRecord most N before after old new (Err k) = TellsRecordFault most N before (length old) k

-- the rows of the records read so far, and the rows left, are all the rows
abbrev pub AreRead : Table → Option (List (List (List ℕ))) → Option (List (List (List ℕ))) → List Record → Type 0
AreRead N None left records = Unit {0}
AreRead N (Some rows) None records = ⊥
AreRead N (Some rows) (Some left) records = rows ≡ map (record_fields N) records ++ left
