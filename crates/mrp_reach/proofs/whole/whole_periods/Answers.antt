use Rattle.std.proofs.Common.{◌≡◌, ◌∙◌, ℕ, List, length, get_or, arith, ap}
use Rattle.std.proofs.lemmas.List.{get_or_default}
use Rattle.mrp_master_data.specs.Table.{Table}
use Rattle.mrp_master_data.specs.declared.numbers.PairNo.{PairNo}
use Rattle.mrp_loops.proofs.Orders.{pair_placed}
use Rattle.mrp_reach.specs.Reach.{whole_at}
use Rattle.mrp_reach.proofs.Demanded.{found_more, found_none, whole_from_found}
use Rattle.mrp_reach.proofs.whole.whole_periods.Goals as goal

pub loop-x-init : goal.loop-x-init
loop-x-init c = found_none c.args.net.now.network c.in_code_order-x-items.result.now c.in_code_order-x-items.ensures.planning c.in_ok-wholes.wholes.items
    (omega (arith, c.in_ok-wholes.ensures.len, c.pairs.ensures.value, ap (λ (N : Table). length N.pairs) c.network-network.ensures.value))

pub whole_of-whole-requires-clause-pair : goal.whole_of-whole-requires-clause-pair
whole_of-whole-requires-clause-pair c =
    let placed = pair_placed c.args.net.now.network c.in_code_order-x-items.result.now c.in_code_order-x-items.ensures.planning c.loop-x.x-index
    (record { 0 = 0 }) c.loop-x-test.true in
    omega (arith, placed, ap (λ (N : Table). length N.pairs) c.network-network.ensures.value)

pub whole_of-whole-requires-clause-size : goal.whole_of-whole-requires-clause-size
whole_of-whole-requires-clause-size c =
    omega (
      arith,
      ap (λ (row : List ℕ). length row) c.as_slice.ensures.value,
      c.loop-x.invariant.size,
      ap (λ (N : Table). length N.pairs) c.network-network.ensures.value,
    )

pub index_mut-requires : goal.index_mut-requires
index_mut-requires c =
    let placed = pair_placed c.args.net.now.network c.in_code_order-x-items.result.now c.in_code_order-x-items.ensures.planning c.loop-x.x-index
    (record { 0 = 0 }) c.loop-x-test.true in
    omega (arith, placed, c.loop-x.invariant.size)

pub loop-x-preserved : goal.loop-x-preserved
loop-x-preserved c =
    let N : Table = c.args.net.now.network in
    let order = c.in_code_order-x-items.result.now in
    let k = c.loop-x.x-index in
    let no_pair : PairNo = record { 0 = 0 } in
    let x : PairNo = get_or order k no_pair in
    let wholes = c.loop-x.wholes.items in
    let whole : c.whole_of-whole.result ≡ whole_at N wholes x.0 = c.whole_of-whole.ensures
    ∙ ap (λ (row : List ℕ). whole_at c.network-network.result.now row x.0) c.as_slice.ensures.value
    ∙ ap (λ (n : Table). whole_at n wholes x.0) c.network-network.ensures.value in
    found_more N order c.in_code_order-x-items.ensures.planning k wholes x c.whole_of-whole.result c.loop-x-test.true
    (ap (λ (z : PairNo). z.0) (get_or_default order k x no_pair c.loop-x-test.true)) whole c.loop-x.invariant

pub returns : goal.returns
returns c = whole_from_found c.args.net.now.network c.in_code_order-x-items.result.now c.in_code_order-x-items.ensures.planning c.loop-x.x-index
    c.loop-x.wholes.items (omega arith) c.loop-x.invariant
