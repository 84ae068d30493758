use Rattle.std.proofs.Common.{◌++◌, Err, ap, refl, ◌∙◌}
use Rattle.std.proofs.lemmas.Result.{err_from_is_err_and}
use Rattle.mrp_csv_out.specs.Headings.{header_row}
use Rattle.mrp_report.specs.Headings.{peg_names}
use Rattle.mrp_report.specs.Terms.{peg_text}
use Rattle.mrp_api.specs.Reports.{IsHeaded, IsPegs}
use Rattle.mrp_api.proofs.TextFacts.{report-fails}
use Rattle.mrp_api.proofs.writing.report_pegs_at.Goals as goal

pub returns-in_err-peg_rows-clause-text : goal.returns-in_err-peg_rows-clause-text
returns-in_err-peg_rows-clause-text g c =
    let p = err_from_is_err_and c.from_residual-in_err-peg_rows.result c.from_residual-in_err-peg_rows.ensures.1 in
    let N = c.args.net.now.network in
    let terms = c.as_slice.ensures.value ∙ c.in_ok-terms.ensures.terms in
    let rows = peg_text N c.as_slice.result.now in
    rw p.1
    (report-fails _ _ (header_row c.args.heading peg_names ++ rows) c.in_err-peg_rows.field-0.0 p.0
    (IsHeaded c.args.heading peg_names (IsPegs N c.args.x.0 c.args.period))
    (rows, (c.requires.plannable, c.requires.period, (c.in_ok-plan.plan, c.in_ok-plan.ensures.fits, ap (peg_text N) terms)), refl) c.in_err-peg_rows.ensures.text
    (λ same. ap g.W.Write.contents (c.in_err-peg_rows.ensures.untouched (ap Err same))) p.2)

pub returns-clause-text : goal.returns-clause-text
returns-clause-text g c =
    let N = c.args.net.now.network in
    let terms = c.as_slice.ensures.value ∙ c.in_ok-terms.ensures.terms in
    let rows = peg_text N c.as_slice.result.now in
    (_, (rows, (c.requires.plannable, c.requires.period, (c.in_ok-plan.plan, c.in_ok-plan.ensures.fits, ap (peg_text N) terms)), refl), c.in_ok-peg_rows.ensures.text)
