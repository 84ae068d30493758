use Rattle.std.proofs.Common.{◌≡◌, ◌≤◌, ◌-◌, drop, length, length-drop, take, arith, ap, ◌∙◌}
use Rattle.std.proofs.lemmas.List.{length-take-le, take_all}
use Rattle.mrp_report.specs.Parts.{parts_row, parts_text, period_part}
use Rattle.mrp_csv_out.specs.DateLists.{date_in}
use Rattle.mrp_report.specs.Parts.{period_at}
use Rattle.mrp_csv_out.proofs.RowFacts.{rows-more}
use Rattle.mrp_report.proofs.plan.put_pair.Goals as goal

pub periods-preserved : goal.periods-preserved
unfolding parts_row
periods-preserved c =
    let text = c.put_period-start.new.text in
    let start = c.put_period-start.result in
    let part : take (116 - start) (drop start text) ≡ period_part (date_in c.args.dates.now c.periods.t) (period_at c.args.plan.now c.periods.t) =
    take_all _ _ (omega (arith, length-drop start text)) ∙ c.put_period-start.ensures.part
    ∙ ap (period_part (date_in c.args.dates.now c.periods.t)) c.period_at.ensures in
    let size : length (take (116 - start) (drop start text)) ≤ 116 =
    omega (arith, length-take-le (116 - start) (drop start text) (omega (arith, length-drop start text))) in
    record {
      longest = omega (arith, c.periods.invariant.longest, c.put_parts-after.ensures.length, c.requires.pair, size);
      kept = c.put_parts-after.ensures.room ∙ c.periods.invariant.kept;
      so_far = rows-more (λ t. parts_row c.args.pair.now (date_in c.args.dates.now t) (period_at c.args.plan.now t))
          _ _ _ c.periods.t c.periods.invariant.so_far
          (rw part at c.put_parts-after.ensures.row);
    }

pub returns-clause-rows : goal.returns-clause-rows
unfolding parts_text
returns-clause-rows c =
    let at_end : c.periods.t ≡ length c.args.dates.now = omega arith in
    rw (← at_end) c.periods.invariant.so_far
