use Rattle.std.proofs.Common.{◌++◌, Err, ap, refl}
use Rattle.std.proofs.lemmas.Result.{err_from_is_err_and}
use Rattle.mrp_report.specs.Headings.{code_names}
use Rattle.mrp_csv_out.specs.Headings.{header_row}
use Rattle.mrp_report.specs.Codes.{code_text}
use Rattle.mrp_api.specs.Reports.{IsCodeReport, IsHeaded}
use Rattle.mrp_api.proofs.TextFacts.{report-fails}
use Rattle.mrp_api.proofs.writing.report_codes.Goals as goal

pub returns-in_err-code_rows-clause-text : goal.returns-in_err-code_rows-clause-text
returns-in_err-code_rows-clause-text g c =
    let p = err_from_is_err_and c.from_residual.result c.from_residual.ensures.1 in
    let N = c.args.network.now in
    let rows = code_text N c.args.levels.now in
    rw p.1
    (report-fails _ _ (header_row c.args.heading code_names ++ rows) c.in_err-code_rows.field-0.0 p.0 (IsHeaded c.args.heading code_names (IsCodeReport N))
    (rows, (c.requires.plannable, (c.args.levels.now, c.requires.codes, refl)), refl) c.in_err-code_rows.ensures.text
    (λ same. ap g.W.Write.contents (c.in_err-code_rows.ensures.untouched (ap Err same))) p.2)

pub returns-clause-text : goal.returns-clause-text
returns-clause-text g c =
    let rows = code_text c.args.network.now c.args.levels.now in
    (_, (rows, (c.requires.plannable, (c.args.levels.now, c.requires.codes, refl)), refl), c.in_ok-code_rows.ensures.text)
