use Rattle.std.proofs.Common.{Err, ap, refl, subst, sym}
use Rattle.std.proofs.lemmas.Result.{err_from_is_err_and}
use Rattle.mrp_reach.specs.Reach.{AreWhole}
use Rattle.mrp_reach.specs.ReachRows.{reach_text}
use Rattle.mrp_api.specs.Reports.{IsReachReport}
use Rattle.mrp_api.proofs.TextFacts.{report-fails}
use Rattle.mrp_api.proofs.writing.report_reach.Goals as goal

pub reach_rows-requires : goal.reach_rows-requires
reach_rows-requires g c = subst (AreWhole c.args.net.now.network) (sym c.as_slice.ensures.value) c.in_ok-wholes.ensures

pub returns-in_err-reach_rows-clause-text : goal.returns-in_err-reach_rows-clause-text
returns-in_err-reach_rows-clause-text g c =
    let p = err_from_is_err_and c.from_residual-in_err-reach_rows.result c.from_residual-in_err-reach_rows.ensures.1 in
    let N = c.args.net.now.network in
    let wholes = c.as_slice.result.now in
    let are = subst (AreWhole N) (sym c.as_slice.ensures.value) c.in_ok-wholes.ensures in
    rw p.1
    (report-fails _ _ (reach_text c.args.heading N wholes) c.in_err-reach_rows.field-0.0 p.0 (IsReachReport c.args.heading N)
    (c.requires, (wholes, are, refl)) c.in_err-reach_rows.ensures.text
    (λ same. ap g.W.Write.contents (c.in_err-reach_rows.ensures.untouched (ap Err same))) p.2)

pub returns-clause-text : goal.returns-clause-text
returns-clause-text g c =
    let are = subst (AreWhole c.args.net.now.network) (sym c.as_slice.ensures.value) c.in_ok-wholes.ensures in
    (_, (c.requires, (c.as_slice.result.now, are, refl)), c.in_ok-reach_rows.ensures.text)
