-- Master data: how many rows those of a table were read from.
use Rattle.std.specs.Prelude.{ℕ, ◌+◌, length, if◌then◌else◌}
use Rattle.mrp_master_data.specs.Table.{Table}

-- the run row, and the rows of each of the other kinds but the end; a first day that is given is a row
abbrev pub rows_above_end : Table → ℕ
rows_above_end N =
    1 + length N.plants + length N.pairs + length N.bills + length N.demands + length N.receipts + length N.ships
    + length N.cums + length N.resets + length N.firms + length N.policies + length N.usages
    + length N.vendors + length N.calendar.begun

-- and with the row that ends the table, where there is one
abbrev pub row_count : Table → ℕ
row_count N = rows_above_end N + (if N.ended then 1 else 0)
