use Rattle.std.proofs.Common.{◌≡◌, ◌+◌, ◌≤◌, length}
use Rattle.mrp_validation.specs.Left.{GivesAll, rows_left}
use Rattle.mrp_record_csv.proofs.Loop.{IsReadSoFar}
use Rattle.mrp_record_csv.proofs.reading.read_up_to.Given as goal

-- each turn read one record, and its rows with the rows left are all the rows
abbrev pub invariant-loop-number : goal.invariant-loop-number
invariant-loop-number g l = record {
  gives : GivesAll l.rows;
  so_far : IsReadSoFar l.items (rows_left g.R.Read.remaining l.fn.rows) (rows_left g.R.Read.remaining l.rows) l.records.items;
  few : length l.records.items ≤ l.fn.most;
  count : length l.records.items + 1 ≡ l.number;
}
