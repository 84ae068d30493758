use Rattle.std.proofs.Common.{◌≡◌, ◌++◌}
use Rattle.std.specs.List.{flat_map, range_with_len}
use Rattle.mrp_net.specs.Plan.{rows_at}
use Rattle.mrp_csv_out.specs.Writing.{IsBetweenRows, written}
use Rattle.mrp_report.specs.Parts.{late_row}
use Rattle.mrp_csv_out.specs.Names.{plant_of, item_of}
use Rattle.mrp_report.proofs.late.late_text.Given as goal

-- the rows of the pairs before x are there
abbrev pub invariant-pairs : goal.invariant-pairs
invariant-pairs l = record {
  between : IsBetweenRows l.rows;
  so_far : written l.rows ≡ written l.initial.rows ++ flat_map (λ x. flat_map (late_row (plant_of l.network x) (item_of l.network x)) (rows_at l.plan x).late)
      (range_with_len 0 l.x);
}
