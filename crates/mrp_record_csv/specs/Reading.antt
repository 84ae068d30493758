-- Records as CSV: what reading them answers.
use Rattle.std.specs.Prelude.{◌≡◌, ℕ, ◌+◌, ◌≤◌, ◌<◌, List, ◌∷◌, ◌++◌, length, map, All, Err}
use Rattle.mrp_master_data.specs.Table.{Table}
use Rattle.mrp_record.specs.declared.record.Record.{Record}
use Rattle.mrp_record_csv.specs.declared.fault.RecordFault.{RecordFault}
use Rattle.mrp_record_csv.specs.declared.fault.RecordFaultKind.{RecordFaultKind}
use Rattle.mrp_record_csv.specs.declared.fault.RecordFaultKind.TheVariants as fault
use Rattle.mrp_record_csv.specs.Rows.{HasRow, record_fields}
use Rattle.mrp_record_csv.specs.Grammar.{record_of}

-- the rows are those of the records, which are not more than may be read
pub record AreRowsOf (most : ℕ) (N : Table) (rows : List (List (List ℕ))) (records : List Record) : Type 0 where
  pub rows_are : rows ≡ map (record_fields N) records
  pub have_rows : All (HasRow N) records
  pub few : length records ≤ most

-- the first of the rows has that first fault
abbrev pub StartsWithFault : Table → List (List (List ℕ)) → RecordFaultKind → Type 0
StartsWithFault N rows k = (row : List (List ℕ)) × (rest : List (List (List ℕ))) × (rows ≡ row ∷ rest)
    × (record_of N row ≡ Err k)

-- the first of the rows, after so many of the most that may be read, may be read and has that first fault. That the reader failed,
-- that the row is one too many, or that memory was wanting, says nothing of it
abbrev pub StopsAfter : ℕ → ℕ → Table → List (List (List ℕ)) → RecordFaultKind → Type 0
StopsAfter most before N rows fault.ReadFault = Unit {0}
StopsAfter most before N rows fault.Memory = Unit {0}
StopsAfter most before N rows k = (before < most) × StartsWithFault N rows k

-- the rows before the fault's are those of records, and the fault is the first one of its row
pub record HasFault (most : ℕ) (N : Table) (rows : List (List (List ℕ))) (e : RecordFault) : Type 0 where
  pub before : List Record
  pub rest : List (List (List ℕ))
  pub rows_are : rows ≡ map (record_fields N) before ++ rest
  pub have_rows : All (HasRow N) before
  pub number : e.row ≡ length before + 1
  pub few : length before ≤ most
  pub stops : StopsAfter most (length before) N rest e.kind
