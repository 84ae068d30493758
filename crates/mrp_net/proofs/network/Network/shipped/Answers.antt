use Rattle.std.proofs.Common.{ap, ◌∙◌}
use Rattle.mrp_net.specs.declared.lane.Lane.{Lane}
use Rattle.mrp_net.specs.Lanes.{pair_on, shipped_from, supplier_of}
use Rattle.mrp_net.proofs.Sourcing.{sent_at}
use Rattle.mrp_net.proofs.network.Network.shipped.Goals as goal

pub returns : goal.returns
returns c =
    let M = c.args.self.now in
    let lane = c.lane.result in
    sent_at _ M shipped_from c.self.inside.lanes.shipped.items c.source-source.result (pair_on M lane c.args.item)
    (supplier_of lane) c.index.result.now c.self.view_is c.self.invariant.lanes.sent c.source-source.ensures.value c.source-source.ensures.taken
    c.index.ensures
    ∙ ap (λ (z : Lane). shipped_from M (pair_on M z c.args.item) (supplier_of z)) c.lane.ensures.value
