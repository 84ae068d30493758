use Rattle.std.proofs.Common.{Err, ap}
use Rattle.std.proofs.lemmas.Result.{err_from_is_err_and}
use Rattle.mrp_csv_out.proofs.Fronts.{whole-after}
use Rattle.mrp_report.specs.Report.{late_text, plan_text}
use Rattle.mrp_api.specs.Text.{IsPlanReport}
use Rattle.mrp_api.specs.Reports.{IsPlanRows}
use Rattle.mrp_api.proofs.OneReport.{are_plan_rows, is_plan_report}
use Rattle.mrp_api.proofs.RowFacts.{late-fails, rows-fail}
use Rattle.mrp_api.proofs.TextFacts.{first-fails, rest-fails}
use Rattle.mrp_api.proofs.writing.report_plan.Goals as goal

pub returns-in_err-plan_rows-clause-text : goal.returns-in_err-plan_rows-clause-text
returns-in_err-plan_rows-clause-text g c =
    let p = err_from_is_err_and c.from_residual.result c.from_residual.ensures.1 in
    let N = c.args.net.now.network in
    rw p.1
    (first-fails _ _ (plan_text N c.args.plan.now) (late_text N c.args.plan.now) c.in_err-plan_rows.field-0.0 p.0 (IsPlanReport N)
    (is_plan_report N c.args.plan.now c.requires.plannable c.requires.fits) c.in_err-plan_rows.ensures.text
    (λ same. ap g.W.Write.contents (c.in_err-plan_rows.ensures.untouched (ap Err same))) p.2)

pub returns-in_err-late_rows-clause-text : goal.returns-in_err-late_rows-clause-text
returns-in_err-late_rows-clause-text g c =
    let p = err_from_is_err_and c.from_residual-in_err-late_rows.result c.from_residual-in_err-late_rows.ensures.1 in
    let N = c.args.net.now.network in
    rw p.1
    (rest-fails _ _ _ (plan_text N c.args.plan.now) (late_text N c.args.plan.now) c.in_err-late_rows.field-0.0 p.0 (IsPlanReport N)
    (is_plan_report N c.args.plan.now c.requires.plannable c.requires.fits) c.in_ok-plan_rows.ensures.text c.in_err-late_rows.ensures.text
    (λ same. ap g.W.Write.contents (c.in_err-late_rows.ensures.untouched (ap Err same))) p.2)

pub returns-clause-text : goal.returns-clause-text
returns-clause-text g c =
    let N = c.args.net.now.network in (
      _,
      (is_plan_report N c.args.plan.now c.requires.plannable c.requires.fits),
      whole-after _ _ _ (plan_text N c.args.plan.now) (late_text N c.args.plan.now) c.in_ok-plan_rows.ensures.text c.in_ok-late_rows.ensures.text,
    )

pub returns-in_err-plan_rows-clause-rows : goal.returns-in_err-plan_rows-clause-rows
returns-in_err-plan_rows-clause-rows g c =
    let p = err_from_is_err_and c.from_residual.result c.from_residual.ensures.1 in
    rw p.1 (rows-fail g.W.Write.contents _ _ c.in_err-plan_rows.field-0.0 p.0 (IsPlanRows c.args.net.now.network)
    (λ same. c.in_err-plan_rows.ensures.untouched (ap Err same)) p.2)

pub returns-in_err-late_rows-clause-rows : goal.returns-in_err-late_rows-clause-rows
returns-in_err-late_rows-clause-rows g c =
    let p = err_from_is_err_and c.from_residual-in_err-late_rows.result c.from_residual-in_err-late_rows.ensures.1 in
    let N = c.args.net.now.network in
    rw p.1
    (late-fails g.W.Write.contents c.args.writer.now c.plan_rows.new.out c.late_rows.new.out (plan_text N c.args.plan.now) c.in_err-late_rows.field-0.0 p.0
    (IsPlanRows N)
    (are_plan_rows N c.args.plan.now c.requires.plannable c.requires.fits) c.in_ok-plan_rows.ensures.text
    (λ same. c.in_err-late_rows.ensures.untouched (ap Err same)) p.2)
