use Rattle.std.proofs.Common.{◌≡◌, ◌++◌, ◌∙◌, List, ℕ, ap, append_assoc}
use Rattle.mrp_commands.specs.Given.{name_of}
use Rattle.mrp_schedules.specs.ScheduleRows.{lanes_text, schedule_text, vendors_text}
use Rattle.mrp_csv_out.proofs.RowFacts.{headed_rows}
use Rattle.mrp_schedules.proofs.report.schedule_text.Goals as goal

both : (named more all lanes vendors : List ℕ) → all ≡ more ++ vendors → more ≡ named ++ lanes → all ≡ named ++ (lanes ++ vendors)
both named more all lanes vendors last first = last ∙ ap (λ (z : List ℕ). z ++ vendors) first ∙ append_assoc named lanes vendors

pub returns-clause-text : goal.returns-clause-text
unfolding schedule_text
returns-clause-text c =
    let N = c.args.report.now.net.now.network in
    let from = name_of c.args.report.now.from in
    let to = name_of c.args.report.now.to in
    headed_rows c.text_of.result _ _ _ _ _ c.text_of.ensures.text
    (both _ _ _ (lanes_text from to N) (vendors_text from to N) c.in_ok-put_vendors.ensures.rows c.in_ok-put_lanes.ensures.rows)
    c.in_ok-put_names.ensures.names c.in_ok-rows.ensures.empty
