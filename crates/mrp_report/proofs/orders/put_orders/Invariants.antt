use Rattle.std.proofs.Common.{◌≡◌, ◌++◌}
use Rattle.std.specs.List.{flat_map, range_with_len}
use Rattle.mrp_report.specs.OrderLines.{due_text}
use Rattle.mrp_csv_out.specs.Writing.{IsBetweenRows, written}
use Rattle.mrp_report.proofs.orders.put_orders.Given as goal

-- the rows of the periods before t are there
abbrev pub invariant-periods : goal.invariant-periods
invariant-periods l = record {
  between : IsBetweenRows l.rows;
  so_far : written l.rows ≡ written l.initial.rows ++ flat_map (due_text l.line l.plan) (range_with_len 0 l.t);
}
