use Rattle.std.proofs.Common.{◌∙◌, ap₂, refl}
use Rattle.mrp_report.specs.Lanes.{lane_text}
use Rattle.mrp_api.proofs.writing.report_cums.Goals as goal

pub returns-clause-text : goal.returns-clause-text
returns-clause-text g c =
    let rows = lane_text c.network.result.now c.as_slice.result.now in
    let are = ap₂ lane_text c.network.ensures.value (c.as_slice.ensures.value ∙ c.in_ok-figures.ensures.figures) in
    (_, (rows, (c.requires, are), refl), c.in_ok-lane_rows.ensures.text)
