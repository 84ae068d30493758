use Rattle.std.proofs.Common.{◌≡◌, ◌++◌, take}
use Rattle.std.specs.List.{flat_map}
use Rattle.mrp_csv_out.specs.Writing.{IsBetweenRows, written}
use Rattle.mrp_schedules.specs.ItemRows.{item_row}
use Rattle.mrp_schedules.proofs.report.put_lines.Given as goal

-- the rows of the lines before this one are there
abbrev pub invariant-lines : goal.invariant-lines
invariant-lines l = record {
  between : IsBetweenRows l.rows;
  so_far : written l.rows ≡ written l.initial.rows ++ flat_map (item_row l.common) (take l.line-index l.lines);
}
