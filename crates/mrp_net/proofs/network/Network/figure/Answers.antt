use Rattle.std.proofs.Common.{ap, ◌∙◌}
use Rattle.mrp_net.specs.declared.lane.Lane.{Lane}
use Rattle.mrp_net.specs.Lanes.{figure, pair_on, supplier_of}
use Rattle.mrp_net.proofs.Sourcing.{sent_at}
use Rattle.mrp_net.proofs.network.Network.figure.Goals as goal

pub returns : goal.returns
returns c =
    let M = c.args.self.now in
    let lane = c.lane.result in
    sent_at _ M figure c.self.inside.lanes.figures.items c.source-source.result (pair_on M lane c.args.item)
    (supplier_of lane) c.index.result.now c.self.view_is c.self.invariant.lanes.openings c.source-source.ensures.value c.source-source.ensures.taken
    c.index.ensures
    ∙ ap (λ (z : Lane). figure M (pair_on M z c.args.item) (supplier_of z)) c.lane.ensures.value
