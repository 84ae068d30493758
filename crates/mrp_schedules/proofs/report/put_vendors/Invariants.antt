use Rattle.std.proofs.Common.{◌≡◌, ◌++◌, take}
use Rattle.std.specs.List.{flat_map}
use Rattle.mrp_csv_out.specs.Writing.{IsBetweenRows, written}
use Rattle.mrp_schedules.proofs.RowFacts.{row_text}
use Rattle.mrp_commands.specs.Given.{name_of}
use Rattle.mrp_schedules.proofs.report.put_vendors.Given as goal

-- the rows of the vendors before this one are there
abbrev pub invariant-vendors : goal.invariant-vendors
invariant-vendors l = record {
  between : IsBetweenRows l.rows;
  so_far : written l.rows ≡ written l.initial.rows
      ++ flat_map (row_text (name_of l.report.from) (name_of l.report.to) l.report.net.now.network) (take l.vendor-index l.vendors);
}
