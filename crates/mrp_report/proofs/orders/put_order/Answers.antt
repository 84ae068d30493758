use Rattle.std.proofs.Common.{rules}
use Rattle.mrp_report.specs.Orders.{listed_order_row}
use Rattle.mrp_report.proofs.orders.put_order.Goals as goal

pub returns-clause-row : goal.returns-clause-row
unfolding listed_order_row
returns-clause-row c = rw (← c.date_of.ensures, ← c.date_of-2.ensures) (search rules)
