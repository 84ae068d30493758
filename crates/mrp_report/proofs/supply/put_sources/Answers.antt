use Rattle.std.proofs.Common.{arith, codes}
use Rattle.mrp_report.proofs.SupplyFacts.{all_read, next_read}
use Rattle.mrp_report.proofs.supply.put_sources.Goals as goal

pub put_source-requires-clause-pair : goal.put_source-requires-clause-pair
put_source-requires-clause-pair c =
    (next_read c.args.network.now c.args.x.0 c.sources.low (codes "from") c.sources.text.items c.suppliers-edges.result.now c.share_from.result c.in-Some.edge
    c.pairs-pairs.ensures.table c.requires.pair c.requires.from c.sources.invariant c.suppliers-edges.ensures.value c.share_from.ensures c.in-Some.is).pair

pub put_source-requires-clause-rises : goal.put_source-requires-clause-rises
put_source-requires-clause-rises c =
    (next_read c.args.network.now c.args.x.0 c.sources.low (codes "from") c.sources.text.items c.suppliers-edges.result.now c.share_from.result c.in-Some.edge
    c.pairs-pairs.ensures.table c.requires.pair c.requires.from c.sources.invariant c.suppliers-edges.ensures.value c.share_from.ensures c.in-Some.is).rises

pub sources-smaller : goal.sources-smaller
sources-smaller c =
    let next =
    next_read c.args.network.now c.args.x.0 c.sources.low (codes "from") c.sources.text.items c.suppliers-edges.result.now c.share_from.result c.in-Some.edge
    c.pairs-pairs.ensures.table c.requires.pair c.requires.from c.sources.invariant c.suppliers-edges.ensures.value c.share_from.ensures c.in-Some.is in
    omega (arith, next.begins, next.rises, next.ends)

pub sources-preserved : goal.sources-preserved
sources-preserved c =
    (next_read c.args.network.now c.args.x.0 c.sources.low (codes "from") c.sources.text.items c.suppliers-edges.result.now c.share_from.result c.in-Some.edge
    c.pairs-pairs.ensures.table c.requires.pair c.requires.from c.sources.invariant c.suppliers-edges.ensures.value c.share_from.ensures c.in-Some.is).more
    c.put_source.new.text.items c.in_ok-put_source.ensures.part

pub returns-clause-text : goal.returns-clause-text
returns-clause-text c =
    all_read c.args.network.now c.args.x.0 c.sources.low c.sources.text.items c.suppliers-edges.result.now c.share_from.result c.pairs-pairs.ensures.table
    c.requires.pair c.requires.from c.sources.invariant c.suppliers-edges.ensures.value c.share_from.ensures c.in_default.is
