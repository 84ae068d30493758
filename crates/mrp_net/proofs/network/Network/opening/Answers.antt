use Rattle.std.proofs.Common.{ℕ, ◌+◌, arith, sym, ap, ◌∙◌, subst}
use Rattle.mrp_master_data.specs.Table.{IsTable}
use Rattle.mrp_net.specs.declared.lane.Lane.{Lane}
use Rattle.mrp_net.specs.Lanes.{opening, figure, shipped_from, pair_on, supplier_of}
use Rattle.mrp_net.proofs.Summing.{figure_within, shipped_from_within}
use Rattle.mrp_net.proofs.Routing.{opening_despatch, opening_schedule}
use Rattle.mrp_net.proofs.Sourcing.{sent_at}
use Rattle.mrp_net.proofs.network.Network.opening.Goals as goal

pub returns-in-Despatch : goal.returns-in-Despatch
returns-in-Despatch c =
    let M = c.args.self.now in
    let lane = c.lane-lane.result in
    let x : ℕ = pair_on M lane c.args.item in
    let p : ℕ = supplier_of lane in
    let read = sent_at _ M figure c.self.inside.lanes.figures.items c.source-at.result x p c.index.result.now c.self.view_is c.self.invariant.lanes.openings
    c.source-at.ensures.value c.source-at.ensures.taken c.index.ensures in
    read
    ∙ sym (opening_despatch M lane c.args.item c.in-Despatch.is)
    ∙ ap (λ (z : Lane). opening M z c.args.item) c.lane-lane.ensures.value

pub returns-in-Schedule : goal.returns-in-Schedule
returns-in-Schedule c =
    let M = c.args.self.now in
    let lane = c.lane-lane.result in
    let x : ℕ = pair_on M lane c.args.item in
    let p : ℕ = supplier_of lane in
    let one = sent_at _ M figure c.self.inside.lanes.figures.items c.source-at.result x p c.index-in-Schedule.result.now c.self.view_is
    c.self.invariant.lanes.openings c.source-at.ensures.value c.source-at.ensures.taken c.index-in-Schedule.ensures in
    let two = sent_at _ M shipped_from c.self.inside.lanes.shipped.items c.source-at.result x p c.index-in-Schedule-2.result.now c.self.view_is
    c.self.invariant.lanes.sent c.source-at.ensures.value c.source-at.ensures.taken c.index-in-Schedule-2.ensures in
    ap (λ (z : ℕ). z + c.index-in-Schedule-2.result.now) one
    ∙ ap (λ (z : ℕ). figure M x p + z) two
    ∙ sym (opening_schedule M lane c.args.item c.in-Schedule.is)
    ∙ ap (λ (z : Lane). opening M z c.args.item) c.lane-lane.ensures.value

pub overflow_add-result : goal.overflow_add-result
overflow_add-result c =
    let M = c.args.self.now in
    let lane = c.lane-lane.result in
    let x : ℕ = pair_on M lane c.args.item in
    let p : ℕ = supplier_of lane in
    let table : IsTable M = subst IsTable c.self.view_is c.self.invariant.table in
    let one = sent_at _ M figure c.self.inside.lanes.figures.items c.source-at.result x p c.index-in-Schedule.result.now c.self.view_is
    c.self.invariant.lanes.openings c.source-at.ensures.value c.source-at.ensures.taken c.index-in-Schedule.ensures in
    let two = sent_at _ M shipped_from c.self.inside.lanes.shipped.items c.source-at.result x p c.index-in-Schedule-2.result.now c.self.view_is
    c.self.invariant.lanes.sent c.source-at.ensures.value c.source-at.ensures.taken c.index-in-Schedule-2.ensures in
    omega (arith, one, two, figure_within M table x p, shipped_from_within M table x p)
