use Rattle.std.proofs.Common.{◌≡◌, ◌-◌, ◌<◌, ◌≤◌, length, ap, sym, subst, ◌∙◌, arith}
use Rattle.mrp_netting.specs.PlanRows.{PlanRows}
use Rattle.mrp_master_data.specs.declared.rows.SourceRow.{SourceRow}
use Rattle.mrp_master_data.specs.Table.{horizon}
use Rattle.mrp_net.specs.Lanes.{lane_at}
use Rattle.mrp_net.specs.Plan.{rows_at}
use Rattle.mrp_run_tests.proofs.Feeding.{is_called}
use Rattle.mrp_run_tests.proofs.tests.lanes.call.Goals as goal

pub pair-requires : goal.pair-requires
pair-requires c =
    subst (λ (s : SourceRow). s.pair.0 < length c.args.plan.now) (sym c.lane_source-source.ensures)
    (is_called c.args.network.now c.args.plan.now (lane_at c.args.network.now c.args.l.0) c.args.item c.requires.table c.requires.fits c.requires.item).pair

pub get-requires : goal.get-requires
get-requires c =
    let row : length c.release.result.now ≡ horizon c.args.network.now =
    ap length c.release.ensures
    ∙ ap (λ (r : PlanRows). length r.release) c.pair.ensures
    ∙ ap (λ (s : SourceRow). length (rows_at c.args.plan.now s.pair.0).release) c.lane_source-source.ensures
    ∙ (is_called c.args.network.now c.args.plan.now (lane_at c.args.network.now c.args.l.0) c.args.item c.requires.table c.requires.fits c.requires.item).row in
    omega (arith, c.requires.period, row)

pub share-requires-clause-rises : goal.share-requires-clause-rises
share-requires-clause-rises c =
    subst (λ (s : SourceRow). s.low ≤ s.high) (sym c.lane_source-source.ensures)
    (is_called c.args.network.now c.args.plan.now (lane_at c.args.network.now c.args.l.0) c.args.item c.requires.table c.requires.fits c.requires.item).rises

pub share-requires-clause-ends : goal.share-requires-clause-ends
share-requires-clause-ends c =
    subst (λ (s : SourceRow). s.high ≤ 1000) (sym c.lane_source-source.ensures)
    (is_called c.args.network.now c.args.plan.now (lane_at c.args.network.now c.args.l.0) c.args.item c.requires.table c.requires.fits c.requires.item).ends
