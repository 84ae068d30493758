use Rattle.std.proofs.Common.{◌≡◌, length, arith}
use Rattle.std.specs.List.{flat_map}
use Rattle.mrp_net.specs.Plan.{rows_at}
use Rattle.mrp_report.specs.Report.{late_text}
use Rattle.mrp_report.specs.Parts.{late_row}
use Rattle.mrp_csv_out.specs.Names.{plant_of, item_of}
use Rattle.mrp_csv_out.proofs.RowFacts.{rows-more, plant_is, item_is, all_rows}
use Rattle.mrp_report.proofs.late.late_text.Goals as goal

pub pairs-preserved : goal.pairs-preserved
pairs-preserved c =
    let plant = plant_is c.network-network.result.now c.pairs.x _ _ c.pair_name.ensures in
    let item = item_is c.network-network.result.now c.pairs.x _ _ c.pair_name.ensures in
    record {
      between = c.in_ok-put_orders.ensures.between;
      so_far = rows-more (λ x. flat_map (late_row (plant_of c.network-network.result.now x) (item_of c.network-network.result.now x))
          (rows_at c.args.plan.now x).late)
          _ _ _ c.pairs.x c.pairs.invariant.so_far
          (rw (plant, item, ← c.pair.ensures) c.in_ok-put_orders.ensures.rows);
    }

pub returns-clause-text : goal.returns-clause-text
unfolding late_text late_row
returns-clause-text c =
    let at_end : c.pairs.x ≡ length c.network-network.result.now.pairs = omega arith in
    rw (← c.network-network.ensures.value)
    (all_rows c.text_of.result _ _ _ c.text_of.ensures.text (rw (← at_end) c.pairs.invariant.so_far) c.in_ok-rows.ensures.empty)
