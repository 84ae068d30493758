use Rattle.std.proofs.Common.{◌≡◌, length, arith}
use Rattle.mrp_report.specs.Orders.{orders_text, pair_orders_text}
use Rattle.mrp_csv_out.proofs.RowFacts.{rows-more}
use Rattle.mrp_report.proofs.orders.put_all_orders.Goals as goal

pub pairs-preserved : goal.pairs-preserved
pairs-preserved c = record {
  between = c.in_ok-put_pair_orders.ensures.between;
  so_far = rows-more (pair_orders_text c.args.report.now.until c.args.report.now.network.now c.args.report.now.plan.now) _ _ _ c.pairs.x
      c.pairs.invariant.so_far
      c.in_ok-put_pair_orders.ensures.rows;
}

pub returns-clause-rows : goal.returns-clause-rows
unfolding orders_text
returns-clause-rows c =
    let at_end : c.pairs.x ≡ length c.args.report.now.network.now.pairs = omega arith in
    rw (← at_end) c.pairs.invariant.so_far
