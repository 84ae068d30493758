use Rattle.std.proofs.Common.{◌≡◌, ◌++◌, take}
use Rattle.std.specs.List.{flat_map}
use Rattle.mrp_csv_out.specs.Writing.{IsBetweenRows, written}
use Rattle.mrp_report.specs.Lanes.{lane_row}
use Rattle.mrp_report.proofs.lanes.lane_text.Given as goal

-- the rows of the figures before this one are there
abbrev pub invariant-figures : goal.invariant-figures
invariant-figures l = record {
  between : IsBetweenRows l.rows;
  so_far : written l.rows ≡ written l.initial.rows ++ flat_map (lane_row l.network) (take l.figure-index l.figures);
}
