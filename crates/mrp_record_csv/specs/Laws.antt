-- Records as CSV: laws of writing and reading them.
use Rattle.std.specs.Prelude.{◌≡◌, ◌⊎◌, ◌↔◌, ℕ, List, [], ◌∷◌, map, All, Ok, IfErr}
use Rattle.std.specs.List.{Contains}
use Rattle.mrp_csv_out.specs.Sheets.{sheet_of}
use Rattle.mrp_master_data.specs.Table.{IsTable, Table}
use Rattle.mrp_record.specs.declared.record.Record.{Record}
use Rattle.mrp_record_csv.specs.declared.fault.RecordFault.{RecordFault}
use Rattle.mrp_record_csv.specs.declared.fault.RecordFaultKind.{RecordFaultKind}
use Rattle.mrp_record_csv.specs.declared.fault.RecordFaultKind.TheVariants as fault
use Rattle.mrp_record_csv.specs.Rows.{HasRow, record_fields, records_text}
use Rattle.mrp_record_csv.specs.Grammar.{record_of}
use Rattle.mrp_record_csv.specs.Reading.{AreRowsOf, HasFault}

-- each record has one row, and only that row is read as it
abbrev pub RecordsHaveOneRow : Type 0
RecordsHaveOneRow =
    (N : Table) → IsTable N → (row : List (List ℕ)) (r : Record)
    → (record_of N row ≡ Ok r) ↔ (HasRow N r × (row ≡ record_fields N r))

-- the faults that a row may have; that the reader failed, and that memory was wanting, are none of these
abbrev pub row_faults : List RecordFaultKind
row_faults = fault.NotUtf8 ∷ fault.FieldCount ∷ fault.UnknownKind ∷ fault.BadNumber ∷ fault.UnknownItem ∷ []

-- whatever the network, a row is refused for one of these alone
abbrev pub RowsHaveListedFaults : Type 0
RowsHaveListedFaults = (N : Table) (row : List (List ℕ)) → IfErr (record_of N row) (Contains row_faults)

-- the rows of a text that was written are those of its records
abbrev pub WrittenRowsAreRead : Type 0
WrittenRowsAreRead =
    (N : Table) → IsTable N → (written : List Record) → All (HasRow N) written
    → sheet_of (records_text N written) ≡ map (record_fields N) written

-- what was written reads back, however many may be read: no other records are read of it, and no row has a fault
abbrev pub WrittenReadsBack : Type 0
WrittenReadsBack =
    (most : ℕ) (N : Table) → IsTable N → (written : List Record) → All (HasRow N) written
    → (read : List Record) → AreRowsOf most N (sheet_of (records_text N written)) read → read ≡ written

abbrev pub WrittenHasNoFault : Type 0
WrittenHasNoFault =
    (most : ℕ) (N : Table) → IsTable N → (written : List Record) → All (HasRow N) written
    → (e : RecordFault) → HasFault most N (sheet_of (records_text N written)) e
    → (e.kind ≡ fault.ReadFault) ⊎ (e.kind ≡ fault.Memory)
