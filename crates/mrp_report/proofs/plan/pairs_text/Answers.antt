use Rattle.std.proofs.Common.{◌≡◌, ◌-◌, ◌+◌, ◌*◌, [], length, arith, ap, ◌∙◌}
use Rattle.std.proofs.lemmas.List.FromFn.{length-map-range_with_len}
use Rattle.mrp_master_data.specs.Table.{horizon}
use Rattle.mrp_net.specs.Plan.{rows_at}
use Rattle.mrp_csv_out.specs.Dates.{dates_of, period_date}
use Rattle.mrp_report.specs.Report.{pair_text}
use Rattle.mrp_report.specs.Parts.{pairs_text}
use Rattle.mrp_csv_out.specs.Names.{plant_of, item_of}
use Rattle.mrp_csv_out.proofs.RowFacts.{rows-more_from, plant_is, item_is}
use Rattle.mrp_report.proofs.RowFacts.{fits_has}
use Rattle.mrp_report.proofs.RoomFacts.{item_short, plant_short, room-next, room-now}
use Rattle.mrp_report.proofs.PartFacts.{parts_text_is}
use Rattle.mrp_report.proofs.plan.pairs_text.Goals as goal

pub put_pair-used-requires-clause-periods : goal.put_pair-used-requires-clause-periods
put_pair-used-requires-clause-periods c t lt =
    let size : length c.args.report.now.dates.now ≡ horizon c.args.report.now.network.now =
    ap length c.requires.dates ∙ length-map-range_with_len (period_date c.args.report.now.network.now.calendar) 0 c.args.report.now.network.now.calendar.periods
    in
    rw c.pair-plan.ensures (fits_has c.args.report.now.network.now c.args.report.now.plan.now c.pairs.x c.requires.fits (omega arith) t (omega arith))

pub put_pair-used-requires-clause-room : goal.put_pair-used-requires-clause-room
put_pair-used-requires-clause-room c =
    room-now c.args.end c.pairs.x (length c.args.report.now.dates.now * 164) _ _ (omega arith) c.pairs.invariant.room

pub name_pair-named-requires-clause-plant : goal.name_pair-named-requires-clause-plant
name_pair-named-requires-clause-plant c = plant_short c.args.report.now.network.now c.pairs.x _ _ c.requires.table c.pair_name.ensures

pub name_pair-named-requires-clause-item : goal.name_pair-named-requires-clause-item
name_pair-named-requires-clause-item c = item_short c.args.report.now.network.now c.pairs.x _ _ c.requires.table c.pair_name.ensures

pub pairs-preserved : goal.pairs-preserved
pairs-preserved c =
    let plant = plant_is c.args.report.now.network.now c.pairs.x _ _ c.pair_name.ensures in
    let item = item_is c.args.report.now.network.now c.pairs.x _ _ c.pair_name.ensures in
    let more : c.pairs.x + 1 - c.args.first ≡ c.pairs.x - c.args.first + 1 = omega arith in
    record {
      room = room-next c.args.end c.pairs.x (length c.args.report.now.dates.now * 164) _ _ _ _
          (omega arith) c.pairs.invariant.room c.put_pair-used.ensures.longest (omega (arith, c.put_pair-used.ensures.room));
      kept = c.put_pair-used.ensures.room ∙ c.pairs.invariant.kept;
      so_far = rw more (rows-more_from (λ x. pair_text (plant_of c.args.report.now.network.now x) (item_of c.args.report.now.network.now x)
          (dates_of c.args.report.now.network.now.calendar) (rows_at c.args.report.now.plan.now x))
          [] _ _ c.args.first (c.pairs.x - c.args.first) c.pairs.x (omega arith) c.pairs.invariant.so_far
          (rw (
            plant,
            item,
            ← c.pair-plan.ensures,
            ← c.requires.dates,
            ← parts_text_is c.pair_name.result.0.now c.pair_name.result.1.now
                c.args.report.now.dates.now c.pair-plan.result.now,
          )
          (rw c.name_pair-named.ensures.part at c.put_pair-used.ensures.rows)));
    }

pub returns-clause-text : goal.returns-clause-text
unfolding pairs_text
returns-clause-text c =
    let at_end : c.pairs.x ≡ c.args.end = omega arith in
    rw (← at_end) c.pairs.invariant.so_far
