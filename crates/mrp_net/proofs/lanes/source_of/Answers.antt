use Rattle.std.proofs.Common.{ℕ, List, length, get_or, arith, sym, ap, ◌∙◌}
use Rattle.mrp_master_data.specs.declared.rows.SourceRow.{SourceRow}
use Rattle.mrp_master_data.specs.Table.{IsPair}
use Rattle.mrp_net.proofs.Sourcing.{no_source, source_within, taker_within, source_from_start, source_after, source_found}
use Rattle.mrp_net.proofs.lanes.source_of.Goals as goal
use Rattle.mrp_master_data.proofs.LimitFacts.{any_limited}

pub offset_bounds-starts-pair : goal.offset_bounds-starts-pair
offset_bounds-starts-pair c =
    let N = c.args.tables.now in
    let pair : IsPair N c.args.pair.0 = taker_within N c.args.pair.0 c.args.plant.0 c.rows.ensures.table c.requires.taken in
    omega (arith, (any_limited N c.rows.ensures.table.read.limits).pairs)

pub bounds-starts-pair : goal.bounds-starts-pair
bounds-starts-pair c =
    let N = c.args.tables.now in
    let pair : IsPair N c.args.pair.0 = taker_within N c.args.pair.0 c.args.plant.0 c.rows.ensures.table c.requires.taken in
    omega (arith, c.requires.starts.size)

pub loop-at-init : goal.loop-at-init
loop-at-init c =
    let N = c.args.tables.now in
    let sources_are = c.sources-sources.ensures.value ∙ ap (λ z. z.sources) c.rows.ensures.value in
    record {
      from = omega arith;
      still = source_from_start N c.args.starts.now c.args.pair.0 c.args.plant.0 c.rows.ensures.table c.requires.starts c.requires.taken;
      there = omega (arith, source_within N c.args.pair.0 c.args.plant.0 c.requires.taken, ap length sources_are);
    }

pub loop-at-preserved : goal.loop-at-preserved
loop-at-preserved c =
    let N = c.args.tables.now in
    let row : List SourceRow → ℕ = λ rows. (get_or rows c.loop-at.at no_source).plant.0 in
    record {
      from = omega arith;
      still = source_after N c.args.pair.0 c.args.plant.0 c.loop-at.at c.requires.taken c.loop-at.invariant.still
          (λ e. c.loop-at-test.true (ap row (c.sources-sources.ensures.value ∙ ap (λ z. z.sources) c.rows.ensures.value) ∙ e));
      there = c.loop-at.invariant.there;
    }

pub returns-clause-value : goal.returns-clause-value
returns-clause-value c =
    let N = c.args.tables.now in
    let row : List SourceRow → ℕ = λ rows. (get_or rows c.loop-at.at no_source).plant.0 in
    source_found N c.args.starts.now c.args.pair.0 c.args.plant.0 c.loop-at.at c.rows.ensures.table c.requires.starts c.requires.taken
    c.loop-at.invariant.from c.loop-at.invariant.still
    (sym (ap row (c.sources-sources.ensures.value ∙ ap (λ z. z.sources) c.rows.ensures.value)) ∙ c.loop-at-test.false)
