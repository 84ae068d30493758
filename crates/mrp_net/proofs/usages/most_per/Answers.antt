use Rattle.mrp_net.proofs.Using.{most_per-more}
use Rattle.mrp_net.proofs.usages.most_per.Goals as goal

pub loop-row-preserved : goal.loop-row-preserved
loop-row-preserved c =
    most_per-more c.loop-row.most c.args.per c.args.rows.now c.loop-row.row-index _ c.div_ceil.result c.max-most.result c.loop-row-test.true c.requires.bases
    c.div_ceil.ensures c.max-most.ensures c.loop-row.invariant
