-- Validation as is asked: by the grammar of a table that has to be whole, or of any.
use Rattle.std.specs.Prelude.{◌≡◌, ◌↔◌, ℕ, ◌+◌, true, false, List, [], ◌∷◌, ◌++◌, length, Result, Ok, Err}
use Rattle.mrp_commands.specs.declared.reading.Reading.{Reading}
use Rattle.mrp_master_data.specs.Table.{Table}
use Rattle.mrp_qty.specs.declared.limits.LimitSet.{LimitSet}
use Rattle.mrp_validation.specs.declared.fault.TableFault.{TableFault}
use Rattle.mrp_validation.specs.declared.fault.TableFaultKind.TheVariants as fault
use Rattle.mrp_validation.specs.Reading.{Reads, ReadsAs}
use Rattle.mrp_validation.specs.Written.{end_fields}

-- rows that are read as is asked make one table, or have one first fault
abbrev pub ReadsAreOneAs : Reading → List (List (List ℕ)) → Result Table TableFault → Result Table TableFault → Type 0
ReadsAreOneAs reading rows a b = ReadsAs reading rows a → ReadsAs reading rows b → a ≡ b

-- where a table need not be whole, nothing is asked of its rows
abbrev pub UsualReadingAsksNothing : Reading → List (List (List ℕ)) → Result Table TableFault → Type 0
UsualReadingAsksNothing reading rows read =
    reading.whole ≡ false → (ReadsAs reading rows read ↔ Reads reading.limits rows read)

-- a table is read as is asked where its rows make it, and where it has to be whole it ends with an `end` row
abbrev pub WholeTablesEnd : Reading → List (List (List ℕ)) → Table → Type 0
WholeTablesEnd reading rows N =
    ReadsAs reading rows (Ok N) ↔ (Reads reading.limits rows (Ok N) × (reading.whole ≡ true → N.ended ≡ true))

-- the rows make a table that has no `end` row, and the fault is that of the row behind the last
pub record LacksItsEnd (limits : LimitSet) (rows : List (List (List ℕ))) (e : TableFault) : Type 0 where
  pub table : Table
  pub reads : Reads limits rows (Ok table)
  pub unended : table.ended ≡ false
  pub row : e.row ≡ length rows + 1

-- the rows are refused as cut off where the table has to be whole and lacks its end
abbrev pub CutTablesAreRefused : Reading → List (List (List ℕ)) → TableFault → Type 0
CutTablesAreRefused reading rows e =
    e.kind ≡ fault.Cut → (ReadsAs reading rows (Err e) ↔ ((reading.whole ≡ true) × LacksItsEnd reading.limits rows e))

-- every other fault is the same, however the rows are read
abbrev pub OtherFaultsStay : Reading → List (List (List ℕ)) → TableFault → Type 0
OtherFaultsStay reading rows e =
    ¬ (e.kind ≡ fault.Cut) → (ReadsAs reading rows (Err e) ↔ Reads reading.limits rows (Err e))

-- an `end` row stands behind all others, and says how many those are
pub record EndsWithItsEnd (rows : List (List (List ℕ))) : Type 0 where
  pub above : List (List (List ℕ))
  pub rows_are : rows ≡ above ++ end_fields (length above) ∷ []

-- a table has an end where an `end` row is its last, and that row counts those above it
abbrev pub TablesEndWithTheirEnd : LimitSet → List (List (List ℕ)) → Table → Type 0
TablesEndWithTheirEnd limits rows N = Reads limits rows (Ok N) → (N.ended ≡ true ↔ EndsWithItsEnd rows)
