use Rattle.std.proofs.Common.{◌≡◌, Option, sym, ap, ◌∙◌, subst}
use Rattle.std.specs.Option.{IfSome}
use Rattle.mrp_master_data.specs.declared.numbers.PairNo.{PairNo}
use Rattle.mrp_master_data.specs.Table.{Table, IsTable, IsPair, pair_no}
use Rattle.mrp_net.specs.declared.lane.Lane.{Lane}
use Rattle.mrp_net.specs.Lanes.{lane_at}
use Rattle.mrp_net.proofs.Behind.{receiver_within}
use Rattle.mrp_net.proofs.network.Network.receiver_pair.Goals as goal

pub unwrap-requires : goal.unwrap-requires
unwrap-requires c =
    let M = c.args.self.now in
    let has : IsPair M (pair_no M (lane_at M c.args.l.0).receiver.0 c.args.item.0) =
    receiver_within M (lane_at M c.args.l.0) c.args.item (subst IsTable c.self.view_is c.self.invariant.table) c.requires.item in
    c.find_pair.ensures.found.1
    (subst (λ (z : Table). IsPair z (pair_no z c.lane.result.receiver.0 c.args.item.0)) (sym c.self.view_is)
    (subst (λ (z : Lane). IsPair M (pair_no M z.receiver.0 c.args.item.0)) (sym c.lane.ensures.value) has))

pub returns : goal.returns
returns c =
    let N = c.self.inside.tables in
    let M = c.args.self.now in
    let found : c.unwrap.result.0 ≡ pair_no N c.lane.result.receiver.0 c.args.item.0 =
    subst (λ (o : Option PairNo). IfSome o (λ x. x.0 ≡ pair_no N c.lane.result.receiver.0 c.args.item.0)) c.unwrap.ensures c.find_pair.ensures.value in
    found
    ∙ ap (λ (z : Table). pair_no z c.lane.result.receiver.0 c.args.item.0) c.self.view_is
    ∙ ap (λ (z : Lane). pair_no M z.receiver.0 c.args.item.0) c.lane.ensures.value
