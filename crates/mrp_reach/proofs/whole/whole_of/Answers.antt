use Rattle.std.proofs.Common.{◌∙◌, List, map, arith, ap}
use Rattle.mrp_master_data.specs.Table.{horizon}
use Rattle.mrp_net.specs.declared.edge.Edge.{Edge}
use Rattle.mrp_reach.specs.Reach.{least}
use Rattle.mrp_reach.proofs.Demanded.{least_all, least_next, released}
use Rattle.mrp_reach.proofs.whole.whole_of.Goals as goal

pub loop-edge-preserved : goal.loop-edge-preserved
loop-edge-preserved c =
    let no_edge : Edge = record { demander = record { 0 = 0 }; pair = record { 0 = 0 }; per = 0; low = 0; high = 0 } in
    least_next (released c.args.network.now c.args.wholes.now) c.demanders-edge-items.result.now no_edge c.loop-edge.edge-index c.loop-edge.whole
    c.releases_whole.result _ _ c.loop-edge-test.true c.releases_whole.ensures c.min-whole.ensures c.loop-edge.invariant

pub returns : goal.returns
returns c =
    least_all (released c.args.network.now c.args.wholes.now) c.demanders-edge-items.result.now c.loop-edge.edge-index c.loop-edge.whole
    _ (omega arith) c.loop-edge.invariant
    ∙ ap (λ (es : List Edge). least (horizon c.args.network.now) (map (released c.args.network.now c.args.wholes.now) es)) c.demanders-edge-items.ensures.value
