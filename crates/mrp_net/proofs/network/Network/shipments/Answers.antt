use Rattle.std.proofs.Common.{ℕ, ◌+◌, slice_index, slice_range, ap, ◌∙◌, subst}
use Rattle.mrp_master_data.specs.Table.{Table}
use Rattle.mrp_net.specs.declared.lane.Lane.{Lane}
use Rattle.mrp_net.specs.Lanes.{shipments, pair_on, supplier_of}
use Rattle.mrp_net.specs.SourceRows.{AreShipments}
use Rattle.mrp_net.proofs.Sourcing.{shipments_ends, shipments_slice}
use Rattle.mrp_net.proofs.network.Network.shipments.Goals as goal

pub get-requires-clause-rises : goal.get-requires-clause-rises
get-requires-clause-rises c = (shipments_ends _ c.args.self.now c.self.inside.lanes.shipments.rows.items c.self.inside.lanes.shipments.starts.items
    c.source-at.result c.self.view_is c.self.invariant.lanes.shipments c.source-at.ensures.within).0

pub get-requires-clause-within : goal.get-requires-clause-within
get-requires-clause-within c = (shipments_ends _ c.args.self.now c.self.inside.lanes.shipments.rows.items c.self.inside.lanes.shipments.starts.items
    c.source-at.result c.self.view_is c.self.invariant.lanes.shipments c.source-at.ensures.within).1

pub returns : goal.returns
returns c =
    let M = c.args.self.now in
    let rows = c.self.inside.lanes.shipments.rows.items in
    let starts = c.self.inside.lanes.shipments.starts.items in
    let lane = c.lane.result in
    let x : ℕ = pair_on M lane c.args.item in
    let p : ℕ = supplier_of lane in
    let are : AreShipments M rows starts = subst (λ (z : Table). AreShipments z rows starts) c.self.view_is c.self.invariant.lanes.shipments in
    c.get.ensures
    ∙ ap (λ (z : ℕ). slice_range rows (slice_index starts z) (slice_index starts (z + 1))) c.source-at.ensures.value
    ∙ shipments_slice M rows starts x p are c.source-at.ensures.taken
    ∙ ap (λ (z : Lane). shipments M z c.args.item) c.lane.ensures.value
