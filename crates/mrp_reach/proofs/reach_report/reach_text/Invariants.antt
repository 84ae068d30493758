use Rattle.std.proofs.Common.{◌≡◌, ◌++◌}
use Rattle.std.specs.List.{flat_map, range_with_len}
use Rattle.mrp_csv_out.specs.Writing.{IsBetweenRows, written}
use Rattle.mrp_reach.specs.ReachRows.{reach_row}
use Rattle.mrp_reach.proofs.reach_report.reach_text.Given as goal

-- the rows of the pairs before x are there
abbrev pub invariant-pairs : goal.invariant-pairs
invariant-pairs l = record {
  between : IsBetweenRows l.rows;
  so_far : written l.rows ≡ written l.initial.rows ++ flat_map (reach_row l.network l.wholes) (range_with_len 0 l.x);
}
