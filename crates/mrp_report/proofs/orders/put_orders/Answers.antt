use Rattle.mrp_report.specs.OrderLines.{due_text}
use Rattle.mrp_csv_out.proofs.RowFacts.{rows-more}
use Rattle.mrp_report.proofs.orders.put_orders.Goals as goal

pub periods-preserved : goal.periods-preserved
periods-preserved c = record {
  between = c.in_ok-put_due.ensures.between;
  so_far = rows-more (due_text c.args.line.now c.args.plan.now) _ _ _ c.periods.t c.periods.invariant.so_far c.in_ok-put_due.ensures.rows;
}
