use Rattle.std.proofs.Common.{◌≡◌, ◌++◌, take}
use Rattle.std.specs.List.{flat_map}
use Rattle.mrp_report.specs.OrderLines.{firm_text}
use Rattle.mrp_csv_out.specs.Writing.{IsBetweenRows, written}
use Rattle.mrp_report.proofs.orders.put_firms_due.Given as goal

-- the rows of the orders before this one are there
abbrev pub invariant-orders : goal.invariant-orders
invariant-orders l = record {
  between : IsBetweenRows l.rows;
  so_far : written l.rows ≡ written l.initial.rows ++ flat_map (firm_text l.line l.t) (take l.firm-index l.firm-items);
}
