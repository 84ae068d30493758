use Rattle.std.proofs.Common.{◌≡◌, ◌<◌, length, suc, sym, ◌∙◌, ap, arith}
use Rattle.std.proofs.lemmas.List.{get_or_read}
use Rattle.mrp_qty.proofs.RangeLaws.{sum_drop_take-le}
use Rattle.mrp_netting.specs.PlanningData.{need, made_up}
use Rattle.mrp_netting.specs.PlanningBound.{data_of}
use Rattle.mrp_netting.proofs.DataLaws.{order_after-none, order_after-some}
use Rattle.mrp_netting.proofs.OrderSteps.{came-length, came-at, need-first, need-most, lot-most}
use Rattle.mrp_netting.proofs.orders.order_for.Goals as goal
use Rattle.mrp_netting.proofs.orders.order_for.Goals.{After-saturating_sub-net}

-- the net requirement is the need of one period
net_is : (c : After-saturating_sub-net) → c.saturating_sub-net.result ≡ need (data_of c.args.given.now c.args.gross.now) c.args.before c.args.t 1
net_is c =
    let d = data_of c.args.given.now c.args.gross.now in
    let t = c.args.t in
    let incoming = c.args.incoming.now in
    let there : t < length incoming = omega (arith, came-length d incoming c.requires.incoming) in
    let required = get_or_read d.gross t _ c.requires.period c.index-gross-t.is 0 in
    let came = came-at d incoming t _ c.requires.incoming (get_or_read incoming t _ there c.index-incoming-t.is 0) in
    omega (arith, need-first d c.args.before t c.args.ahead _ _ c.requires.ahead required came)

pub overflow_add-needed-2 : goal.overflow_add-needed-2
overflow_add-needed-2 c =
    omega (arith, c.requires.within.total, c.requires.ahead, sum_drop_take-le c.args.gross.now (suc c.args.t) c.args.given.now.policy.cover)

pub bounds-incoming-t : goal.bounds-incoming-t
bounds-incoming-t c =
    let d = data_of c.args.given.now c.args.gross.now in
    omega (arith, came-length d c.args.incoming.now c.requires.incoming)

pub returns-then-net-eq0 : goal.returns-then-net-eq0
returns-then-net-eq0 c =
    let d = data_of c.args.given.now c.args.gross.now in
    let net = net_is (goal.at.returns-then-net-eq0 c).After-saturating_sub-net in
    sym (order_after-none d c.args.before c.args.t (sym net ∙ c.if-net-eq0.true))

pub of-requires : goal.of-requires
of-requires c =
    let d = data_of c.args.given.now c.args.gross.now in
    omega (arith, net_is (goal.at.of-requires c).After-saturating_sub-net, need-most d c.args.before c.args.t 1 c.requires.within)

pub lot_of_needs-lot-requires-clause-net : goal.lot_of_needs-lot-requires-clause-net
lot_of_needs-lot-requires-clause-net c =
    c.of.ensures ∙ net_is (goal.at.lot_of_needs-lot-requires-clause-net c).After-saturating_sub-net

pub made_up_lot-requires : goal.made_up_lot-requires
made_up_lot-requires c =
    let d = data_of c.args.given.now c.args.gross.now in
    omega (arith, c.lot_of_needs-lot.ensures, lot-most d c.args.before c.args.t c.requires.within)

pub returns : goal.returns
returns c =
    let d = data_of c.args.given.now c.args.gross.now in
    let net = net_is (goal.at.returns c).After-saturating_sub-net in
    c.made_up_lot.ensures ∙ ap (made_up d.policy) c.lot_of_needs-lot.ensures
    ∙ sym (order_after-some d c.args.before c.args.t (omega (arith, net)))
