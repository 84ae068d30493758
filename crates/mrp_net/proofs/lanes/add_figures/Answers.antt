use Rattle.std.proofs.Common.{◌≡◌, ℕ, ◌+◌, ◌-◌, ◌^◌, true, List, get_or, min, sym, ap, ◌∙◌, subst, arith}
use Rattle.mrp_master_data.specs.declared.rows.CumRow.{CumRow}
use Rattle.mrp_master_data.specs.Table.{is_taken_from}
use Rattle.mrp_grouping.specs.Added.{AddsTotals}
use Rattle.mrp_net.specs.Sources.{source_no}
use Rattle.mrp_net.proofs.Growing.{taken_whole, read_within, AddsTotals-more}
use Rattle.mrp_net.proofs.lanes.add_figures.Goals as goal

pub source_of-source-requires-clause-taken : goal.source_of-source-requires-clause-taken
source_of-source-requires-clause-taken c =
    let N = c.args.tables.now in
    let cums_are = c.cums-cum-items.ensures.value ∙ ap (λ z. z.cums) c.rows.ensures.value in
    let cums = read_within (λ (k : CumRow). is_taken_from N k.pair.0 k.from.0
    ≡ true) c.cums-cum-items.result.now N.cums cums_are c.rows.ensures.table.sourced.cums in
    subst (λ (k : CumRow). is_taken_from N k.pair.0 k.from.0 ≡ true) (sym c.cum-item.is) (cums c.loop-cum.cum-index c.cum-item.result c.loop-cum-test.true)

pub bounds-figures-source : goal.bounds-figures-source
bounds-figures-source c = omega (arith, c.source_of-source.ensures.within, c.requires.room, c.loop-cum.auto.figures)

pub bounds-figures-source-in-loop-cum : goal.bounds-figures-source-in-loop-cum
bounds-figures-source-in-loop-cum c = omega (arith, c.source_of-source.ensures.within, c.requires.room, c.loop-cum.auto.figures)

pub loop-cum-preserved : goal.loop-cum-preserved
loop-cum-preserved c =
    let N = c.args.tables.now in
    let source : ℕ = c.source_of-source.result in
    AddsTotals-more (λ (k : CumRow). source_no N k.pair.0 k.from.0)
    (λ k. k.figure) c.cums-cum-items.result.now c.args.figures.now c.loop-cum.figures c.loop-cum.cum-index c.cum-item.result source c.saturating_add.result
    c.loop-cum-test.true c.cum-item.is
    c.loop-cum.invariant c.source_of-source.ensures.value c.loop-cum.auto.figures (c.saturating_add.ensures
    ∙ ap (λ (z : ℕ). min (get_or c.loop-cum.figures source 0 + z) (2 ^ 64 - 1)) c.get.ensures.value)

pub returns : goal.returns
returns c =
    let N = c.args.tables.now in
    let cums_are = c.cums-cum-items.ensures.value ∙ ap (λ z. z.cums) c.rows.ensures.value in
    subst (λ (z : List CumRow). AddsTotals (λ k. source_no N k.pair.0 k.from.0) (λ k. k.figure) z c.args.figures.now c.loop-cum.figures)
    (taken_whole c.cums-cum-items.result.now N.cums c.loop-cum.cum-index c.loop-cum-test.false cums_are)
    c.loop-cum.invariant
