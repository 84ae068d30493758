-- The library: the table of some bytes, for the text functions, is the one that the grammar reads in them.
use Rattle.std.proofs.Common.{◌≡◌, ℕ, List, length, Option, None, Some, Ok, option_map}
use Rattle.csv.specs.Reading.{default_config, records, strip_bom}
use Rattle.mrp_commands.specs.declared.reading.Reading.{Reading}
use Rattle.mrp_master_data.specs.Table.{Table, IsTable}
use Rattle.mrp_validation.specs.Reading.{Reads, TellsRowsAs}
use Rattle.mrp_validation.specs.Written.{OfRecords}
use Rattle.mrp_validation.specs.Written.{AreNumbered, rows_of}
use Rattle.mrp_validation.proofs.Asked.{whole_end}
use Rattle.mrp_validation.proofs.BackTable.{read_from_its_rows}
use Rattle.mrp_api.specs.Laws.{TablesAreRead}
use Rattle.mrp_api.specs.Text.{IsTableOf}
use Rattle.mrp_qty.specs.declared.limits.LimitSet.{LimitSet}

-- these rows are the table, written out
abbrev AreRowsOf : Table → List (List (List ℕ)) → Type 0
AreRowsOf N rows = (rows ≡ rows_of N) × AreNumbered 0 N.pairs (length N.items)

-- what is read are the rows of the table
pub are_rows : (limits : LimitSet) (rows : List (List (List ℕ))) (N : Table) → Reads limits rows (Ok N) → AreRowsOf N rows
are_rows limits rows N read = let is = (read_from_its_rows limits rows N).0 read in (is.1, is.3)

of_records : (reading : Reading) (known : Option (List ℕ)) (N : Table) → OfRecords known (TellsRowsAs reading (Ok N)) → OfRecords known (AreRowsOf N)
of_records reading None N told = tt
of_records reading (Some text) N told =
    let rows = records default_config text in
    are_rows reading.limits rows N ((whole_end reading rows N).0 told).0

-- a table whose rows were read, as was asked, is that of the bytes
pub is_table_of : (reading : Reading) (known : Option (List ℕ)) (N : Table) → IsTable N → N.limits ≡ reading.limits
    → OfRecords (option_map strip_bom known) (TellsRowsAs reading (Ok N)) → IsTableOf reading.limits known N
is_table_of reading known N table same told = record { limits_are = same; table = table; rows = of_records reading (option_map strip_bom known) N told }

pub tables_are_read : TablesAreRead
tables_are_read limits bytes N =
    let rows : List (List (List ℕ)) = records default_config (strip_bom bytes) in
    let both = read_from_its_rows limits rows N in (
      (λ is. both.1 (is.limits_are, is.rows.0, is.table, is.rows.1)),
      (λ read. record { limits_are = (both.0 read).0; table = (both.0 read).2; rows = are_rows limits rows N read }),
    )
