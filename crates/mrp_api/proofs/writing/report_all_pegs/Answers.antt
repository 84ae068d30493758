use Rattle.std.proofs.Common.{◌++◌, Err, ap, refl}
use Rattle.std.proofs.lemmas.Result.{err_from_is_err_and}
use Rattle.mrp_csv_out.specs.Headings.{header_row}
use Rattle.mrp_report.specs.Headings.{pegs_names}
use Rattle.mrp_report.specs.Pegs.{pegs_text}
use Rattle.mrp_api.specs.Reports.{IsHeaded, IsPegsReport}
use Rattle.mrp_api.proofs.TextFacts.{report-fails}
use Rattle.mrp_api.proofs.writing.report_all_pegs.Goals as goal

pub returns-in_err-pegs_rows-clause-text : goal.returns-in_err-pegs_rows-clause-text
returns-in_err-pegs_rows-clause-text g c =
    let p = err_from_is_err_and c.from_residual-in_err-pegs_rows.result c.from_residual-in_err-pegs_rows.ensures.1 in
    let N = c.args.net.now.network in
    let rows = pegs_text N c.in_ok-plan.plan in
    rw p.1
    (report-fails _ _ (header_row c.args.heading pegs_names ++ rows) c.in_err-pegs_rows.field-0.0 p.0 (IsHeaded c.args.heading pegs_names (IsPegsReport N))
    (rows, (c.requires, (c.in_ok-plan.plan, c.in_ok-plan.ensures.fits, refl)), refl) c.in_err-pegs_rows.ensures.text
    (λ same. ap g.W.Write.contents (c.in_err-pegs_rows.ensures.untouched (ap Err same))) p.2)

pub returns-clause-text : goal.returns-clause-text
returns-clause-text g c =
    let N = c.args.net.now.network in (
      _,
      (pegs_text N c.in_ok-plan.plan, (c.requires, (c.in_ok-plan.plan, c.in_ok-plan.ensures.fits, refl)), refl),
      c.in_ok-pegs_rows.ensures.text,
    )
