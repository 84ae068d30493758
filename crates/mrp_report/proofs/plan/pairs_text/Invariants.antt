use Rattle.std.proofs.Common.{◌≡◌, ◌≤◌, ◌-◌, ◌+◌, ◌*◌, length, take}
use Rattle.std.specs.List.{flat_map, range_with_len}
use Rattle.mrp_net.specs.Plan.{rows_at}
use Rattle.mrp_csv_out.specs.Dates.{dates_of}
use Rattle.mrp_report.specs.Report.{pair_text}
use Rattle.mrp_csv_out.specs.Names.{plant_of, item_of}
use Rattle.mrp_report.proofs.plan.pairs_text.Given as goal

-- the rows of the pairs before x are there, and there is room for those of the rest
abbrev pub invariant-pairs : goal.invariant-pairs
invariant-pairs l = record {
  room : (l.end - l.x) * (length l.report.dates.now * 164) + l.used ≤ length l.room;
  kept : length l.room ≡ length l.initial.room;
  so_far : take l.used l.room ≡ flat_map (λ x. pair_text (plant_of l.report.network.now x) (item_of l.report.network.now x)
      (dates_of l.report.network.now.calendar) (rows_at l.report.plan.now x)) (range_with_len l.first (l.x - l.first));
}
