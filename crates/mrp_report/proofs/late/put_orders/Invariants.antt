use Rattle.std.proofs.Common.{◌≡◌, ◌++◌, take}
use Rattle.std.specs.List.{flat_map}
use Rattle.mrp_csv_out.specs.Writing.{IsBetweenRows, written}
use Rattle.mrp_report.specs.Parts.{late_row}
use Rattle.mrp_report.proofs.late.put_orders.Given as goal

-- the rows of the orders before the i-th are there
abbrev pub invariant-orders : goal.invariant-orders
invariant-orders l = record {
  between : IsBetweenRows l.rows;
  so_far : written l.rows ≡ written l.initial.rows ++ flat_map (late_row l.plant l.item) (take l.i l.plan.late);
}
