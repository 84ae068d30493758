use Rattle.std.proofs.Common.{◌≡◌, ◌++◌, take}
use Rattle.std.specs.List.{flat_map}
use Rattle.mrp_net.specs.Lanes.{lane_at}
use Rattle.mrp_csv_out.specs.Writing.{IsBetweenRows, written}
use Rattle.mrp_schedules.specs.ScheduleRows.{item_text}
use Rattle.mrp_schedules.proofs.report.put_items.Given as goal

-- the rows of the items before this one are there
abbrev pub invariant-items : goal.invariant-items
invariant-items l = record {
  between : IsBetweenRows l.rows;
  so_far : written l.rows
      ≡ written l.initial.rows ++ flat_map (item_text l.report.net.now.network (lane_at l.report.net.now.network l.lane.0)) (take l.item-index l.items);
}
