use Rattle.std.proofs.Common.{◌≡◌, arith, get_or}
use Rattle.std.proofs.lemmas.Option.{get_or_from_slice_get}
use Rattle.mrp_report.specs.Parts.{late_row}
use Rattle.mrp_csv_out.proofs.RowFacts.{rows_of-more}
use Rattle.mrp_report.proofs.late.put_orders.Goals as goal

pub orders-preserved : goal.orders-preserved
orders-preserved c =
    let read : get_or c.args.plan.now.late c.orders.i c.late.result ≡ c.late.result =
    get_or_from_slice_get c.args.plan.now.late c.orders.i c.late.result c.late.result c.late.ensures in
    record {
      between = c.in_ok-put_order.ensures.between;
      so_far = rows_of-more (late_row c.args.plant.now c.args.item.now) c.args.plan.now.late c.late.result
          _ _ _ c.orders.i (omega arith) c.orders.invariant.so_far
          (rw read c.in_ok-put_order.ensures.row);
    }
