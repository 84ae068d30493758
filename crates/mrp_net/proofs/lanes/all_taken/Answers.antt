use Rattle.std.proofs.Common.{length, get_or, map, ap, ◌∙◌, arith}
use Rattle.mrp_master_data.specs.declared.rows.SourceRow.{SourceRow}
use Rattle.mrp_master_data.specs.Table.{IsSourceRow}
use Rattle.mrp_net.specs.Routes.{taken}
use Rattle.mrp_net.specs.Sources.{no_source}
use Rattle.mrp_net.proofs.Growing.{map_pushed, taken_whole, read_within, source_fits, taken_read}
use Rattle.mrp_net.proofs.lanes.all_taken.Goals as goal

pub offset_bounds-pairs-source : goal.offset_bounds-pairs-source
offset_bounds-pairs-source c =
    let N = c.args.tables.now in
    let sources_are = c.sources-sources.ensures.value ∙ ap (λ z. z.sources) c.rows-rows.ensures.value in
    let row = read_within (IsSourceRow N) c.sources-sources.result.now N.sources sources_are c.rows-rows.ensures.table.read.sources
    c.loop-source.source-index no_source c.loop-source-test.true in
    omega (arith, row.pair, ap length (c.pairs-pairs.ensures.value ∙ ap (λ z. z.pairs) c.rows-rows.ensures.value))

pub bounds-pairs-source : goal.bounds-pairs-source
bounds-pairs-source c =
    let N = c.args.tables.now in
    let sources_are = c.sources-sources.ensures.value ∙ ap (λ z. z.sources) c.rows-rows.ensures.value in
    let row = read_within (IsSourceRow N) c.sources-sources.result.now N.sources sources_are c.rows-rows.ensures.table.read.sources
    c.loop-source.source-index no_source c.loop-source-test.true in
    omega (arith, row.pair, ap length (c.pairs-pairs.ensures.value ∙ ap (λ z. z.pairs) c.rows-rows.ensures.value))

pub overflow_mul-pair : goal.overflow_mul-pair
overflow_mul-pair c =
    let sources_are = c.sources-sources.ensures.value ∙ ap (λ z. z.sources) c.rows-rows.ensures.value in
    let pairs_are = c.pairs-pairs.ensures.value ∙ ap (λ z. z.pairs) c.rows-rows.ensures.value in
    let plants_are = c.plants-plants.ensures.value ∙ ap (λ z. length z.plants) c.rows-rows.ensures.value in
    omega (
      arith,
      source_fits c.args.tables.now c.sources-sources.result.now c.pairs-pairs.result.now c.loop-source.source-index c.plants-plants.result
          c.index-pairs-source.result c.rows-rows.ensures.table
          sources_are c.loop-source-test.true pairs_are c.index-pairs-source.is plants_are,
    )

pub overflow_add-pair : goal.overflow_add-pair
overflow_add-pair c =
    let sources_are = c.sources-sources.ensures.value ∙ ap (λ z. z.sources) c.rows-rows.ensures.value in
    let pairs_are = c.pairs-pairs.ensures.value ∙ ap (λ z. z.pairs) c.rows-rows.ensures.value in
    let plants_are = c.plants-plants.ensures.value ∙ ap (λ z. length z.plants) c.rows-rows.ensures.value in
    omega (
      arith,
      source_fits c.args.tables.now c.sources-sources.result.now c.pairs-pairs.result.now c.loop-source.source-index c.plants-plants.result
          c.index-pairs-source.result c.rows-rows.ensures.table
          sources_are c.loop-source-test.true pairs_are c.index-pairs-source.is plants_are,
    )

pub loop-source-preserved : goal.loop-source-preserved
loop-source-preserved c =
    let N = c.args.tables.now in
    let sources_are = c.sources-sources.ensures.value ∙ ap (λ z. z.sources) c.rows-rows.ensures.value in
    let pairs_are = c.pairs-pairs.ensures.value ∙ ap (λ z. z.pairs) c.rows-rows.ensures.value in
    let read = c.sources-sources.result.now in
    let s : SourceRow = get_or read c.loop-source.source-index no_source in
    let row = read_within (IsSourceRow N) read N.sources sources_are c.rows-rows.ensures.table.read.sources c.loop-source.source-index
    no_source c.loop-source-test.true in
    map_pushed (taken N) read c.loop-source.source-index no_source _ _ _ c.loop-source-test.true
    (taken_read N c.pairs-pairs.result.now s c.index-pairs-source.result c.plants-plants.result row.pair pairs_are c.index-pairs-source.is
    (c.plants-plants.ensures.value ∙ ap (λ z. length z.plants) c.rows-rows.ensures.value))
    c.loop-source.invariant c.in_ok-push.ensures.items

pub returns : goal.returns
returns c =
    let N = c.args.tables.now in
    c.loop-source.invariant ∙ ap (map (taken N)) (taken_whole c.sources-sources.result.now N.sources c.loop-source.source-index c.loop-source-test.false
    (c.sources-sources.ensures.value ∙ ap (λ z. z.sources) c.rows-rows.ensures.value))
