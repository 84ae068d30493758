use Rattle.std.proofs.Common.{ap, ◌∙◌, subst}
use Rattle.mrp_master_data.specs.Table.{Table}
use Rattle.mrp_net.specs.declared.lane.Lane.{Lane}
use Rattle.mrp_net.specs.Lanes.{reset, pair_on, supplier_of}
use Rattle.mrp_net.specs.SourceRows.{AreResetsOf}
use Rattle.mrp_net.proofs.Anew.{reset_at}
use Rattle.mrp_net.proofs.network.Network.reset.Goals as goal

pub returns : goal.returns
returns c =
    let M = c.args.self.now in
    let lane = c.lane.result in
    let rows = c.self.inside.lanes.resets.items in
    let resets = subst (λ (z : Table). AreResetsOf z z.resets rows) c.self.view_is c.self.invariant.lanes.resets in
    reset_at M rows c.source-at.result (pair_on M lane c.args.item)
    (supplier_of lane) c.index.result.now resets c.source-at.ensures.value c.source-at.ensures.taken c.index.ensures
    ∙ ap (λ (z : Lane). reset M z c.args.item) c.lane.ensures.value
