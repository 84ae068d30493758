use Rattle.std.proofs.Common.{rules, refl, arith, ap, ◌∙◌}
use Rattle.mrp_master_data.specs.declared.rows.CumRow.{CumRow}
use Rattle.mrp_net.specs.Sources.{source_no}
use Rattle.mrp_net.proofs.Summing.{totals_built}
use Rattle.mrp_net.proofs.Sourcing.{figures_built}
use Rattle.mrp_net.proofs.lanes.figures.Goals as goal

pub returns : goal.returns
returns c =
    let N = c.args.tables.now in
    figures_built N _ c.rows.ensures.table
    (totals_built (λ (k : CumRow). source_no N k.pair.0 k.from.0)
    (λ k. k.figure) c.sources.result.now N.sources N.cums N.cums c.in_ok-figures.figures.items c.as_mut_slice.result.now c.add_figures.new.figures
    c.in_ok-figures.figures.len
    (search rules) (c.sources.ensures.value ∙ ap (λ z. z.sources) c.rows.ensures.value) refl c.as_mut_slice.ensures.value c.add_figures.auto.figures
    (omega (arith, c.add_figures.auto.figures, c.as_mut_slice.ensures.len)) c.add_figures.ensures)
