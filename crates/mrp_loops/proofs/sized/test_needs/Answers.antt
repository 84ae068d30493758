use Rattle.std.proofs.Common.{◌≡◌, ◌-◌, ◌^◌, ◌∙◌, ℕ, List, min, get_or, arith, ap}
use Rattle.std.proofs.lemmas.List.{get_or_default}
use Rattle.mrp_qty.specs.declared.quantity.TheConstants.{MOST}
use Rattle.mrp_master_data.specs.declared.numbers.PairNo.{PairNo}
use Rattle.mrp_net.specs.Sums.{supply}
use Rattle.mrp_loops.specs.Need.{need_at}
use Rattle.mrp_loops.proofs.Orders.{pair_placed}
use Rattle.mrp_loops.proofs.Needed.{solved_none, solved_more, needs_from_found, within_from_solved, cap_exact}
use Rattle.mrp_loops.proofs.sized.test_needs.Goals as goal

pub loop-x-init : goal.loop-x-init
loop-x-init c = solved_none c.args.network.now c.args.order.now c.requires c.in_ok-needs.needs.items
    (omega (arith, c.in_ok-needs.ensures.len, c.pairs.ensures.value))

pub loop-x-preserved : goal.loop-x-preserved
loop-x-preserved c =
    let N = c.args.network.now in
    let order = c.args.order.now in
    let k = c.loop-x.x-index in
    let no_pair : PairNo = record { 0 = 0 } in
    let x : PairNo = get_or order k no_pair in
    let needs = c.loop-x.needs.items in
    let need : c.need-need.result ≡ min (need_at N needs x.0) (2 ^ 64 - 1) =
    c.need-need.ensures ∙ ap (λ (q : List ℕ). min (need_at N q x.0) (2 ^ 64 - 1)) c.as_slice.ensures.value in
    let exact = cap_exact (2 ^ 64 - 1) MOST (supply N x.0) (need_at N needs x.0) c.supply.result c.need-need.result c.saturating_add.result
    (omega arith) c.supply.ensures need c.saturating_add.ensures c.if-saturating_add-gt-MOST.false in
    solved_more N order c.requires k needs x c.need-need.result c.loop-x-test.true
    (ap (λ (z : PairNo). z.0) (get_or_default order k x no_pair c.loop-x-test.true)) exact.0 exact.1 c.loop-x.invariant

pub returns-clause-needs : goal.returns-clause-needs
returns-clause-needs c = needs_from_found c.args.network.now c.args.order.now c.requires c.loop-x.x-index c.loop-x.needs.items
    (omega arith) c.loop-x.invariant.are_found

pub returns-clause-within : goal.returns-clause-within
returns-clause-within c = within_from_solved c.args.network.now c.args.order.now c.requires c.loop-x.x-index c.loop-x.needs.items
    (omega arith) c.loop-x.invariant

pub need-need-requires-clause-pair : goal.need-need-requires-clause-pair
need-need-requires-clause-pair c = pair_placed c.args.network.now c.args.order.now c.requires c.loop-x.x-index (record { 0 = 0 }) c.loop-x-test.true

pub supply-requires : goal.supply-requires
supply-requires c = pair_placed c.args.network.now c.args.order.now c.requires c.loop-x.x-index (record { 0 = 0 }) c.loop-x-test.true

pub index_mut-requires : goal.index_mut-requires
index_mut-requires c =
    let here = pair_placed c.args.network.now c.args.order.now c.requires c.loop-x.x-index (record { 0 = 0 }) c.loop-x-test.true in
    omega (arith, here, c.loop-x.invariant.are_found.size)
