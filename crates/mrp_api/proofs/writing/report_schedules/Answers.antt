use Rattle.std.proofs.Common.{Err, ap, refl}
use Rattle.std.proofs.lemmas.Result.{err_from_is_err_and}
use Rattle.mrp_commands.specs.Given.{name_of}
use Rattle.mrp_schedules.specs.ScheduleRows.{schedule_text}
use Rattle.mrp_api.specs.Reports.{AreSchedules}
use Rattle.mrp_api.proofs.TextFacts.{report-fails}
use Rattle.mrp_api.proofs.writing.report_schedules.Goals as goal

pub returns-in_err-schedule_rows-clause-text : goal.returns-in_err-schedule_rows-clause-text
returns-in_err-schedule_rows-clause-text g c =
    let p = err_from_is_err_and c.from_residual-in_err-schedule_rows.result c.from_residual-in_err-schedule_rows.ensures.1 in
    let N = c.args.net.now.network in
    let from = name_of c.args.supplier in
    let to = name_of c.args.customer in
    rw p.1
    (report-fails _ _ (schedule_text c.args.heading from to N) c.in_err-schedule_rows.field-0.0 p.0
    (AreSchedules from to c.args.heading N) (c.requires, refl) c.in_err-schedule_rows.ensures.text
    (λ same. ap g.W.Write.contents (c.in_err-schedule_rows.ensures.untouched (ap Err same))) p.2)

pub returns-clause-text : goal.returns-clause-text
returns-clause-text g c = (_, (c.requires, refl), c.in_ok-schedule_rows.ensures.text)
