-- Master data without rows that nobody reads once the edges and sums are made. Usage rows go with their bill rows.
use Rattle.std.specs.Prelude.{[]}
use Rattle.mrp_master_data.specs.Table.{Table}

abbrev pub without_bills_and_demands : Table → Table
without_bills_and_demands N = record N { bills = []; demands = []; usages = [] }
