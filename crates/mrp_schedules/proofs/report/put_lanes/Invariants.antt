use Rattle.std.proofs.Common.{◌≡◌, ◌++◌, take}
use Rattle.std.specs.List.{flat_map}
use Rattle.mrp_net.specs.Lanes.{lanes}
use Rattle.mrp_csv_out.specs.Writing.{IsBetweenRows, written}
use Rattle.mrp_schedules.specs.ItemRows.{asked_text}
use Rattle.mrp_commands.specs.Given.{name_of}
use Rattle.mrp_schedules.proofs.report.put_lanes.Given as goal

-- the rows of the lanes before l are there
abbrev pub invariant-lanes : goal.invariant-lanes
invariant-lanes l = record {
  between : IsBetweenRows l.rows;
  so_far : written l.rows ≡ written l.initial.rows
      ++ flat_map (asked_text (name_of l.report.from) (name_of l.report.to) l.report.net.now.network) (take l.l (lanes l.report.net.now.network));
}
