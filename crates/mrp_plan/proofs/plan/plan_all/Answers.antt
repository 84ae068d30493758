use Rattle.std.proofs.Common.{◌≤◌, length, map, ◌∙◌, sym, arith}
use Rattle.std.proofs.lemmas.Grind.{common_steps}
use Rattle.std.proofs.lemmas.List.{length-map}
use Rattle.mrp_master_data.specs.declared.numbers.PairNo.{PairNo}
use Rattle.mrp_loops.proofs.OnePlan.{one_plan_by}
use Rattle.mrp_plan.proofs.Next.{handed_back}
use Rattle.mrp_plan.proofs.Planning.{all_planned}
use Rattle.mrp_plan.proofs.plan.plan_all.Goals as goal

pub returns-clause-fits : goal.returns-clause-fits
returns-clause-fits c =
    let order = map (λ (x : PairNo). x.0) c.in_code_order-order.result.now in
    let whole : length order ≤ c.loop-k.k = omega (arith, length-map c.in_code_order-order.result.now (λ (x : PairNo). x.0)) in
    all_planned c.args.net.now.network c.args.net.now.needs order c.loop-k.k c.loop-k.pairs.items c.in_code_order-order.ensures.planning whole
    c.loop-k.invariant.planned

pub returns-clause-value : goal.returns-clause-value
returns-clause-value c =
    let order = map (λ (x : PairNo). x.0) c.in_code_order-order.result.now in
    let whole : length order ≤ c.loop-k.k = omega (arith, length-map c.in_code_order-order.result.now (λ (x : PairNo). x.0)) in
    (one_plan_by c.args.net.now.network order c.in_code_order-order.ensures.planning).only c.loop-k.pairs.items
    (all_planned c.args.net.now.network c.args.net.now.needs order c.loop-k.k c.loop-k.pairs.items c.in_code_order-order.ensures.planning whole
    c.loop-k.invariant.planned)

pub loop-k-init : goal.loop-k-init
loop-k-init c = grind (arith, common_steps)

pub loop-k-preserved : goal.loop-k-preserved
loop-k-preserved c =
    let after = c.plan_next.ensures.after in
    let back = handed_back c.loop-k.pairs.len c.loop-k.pairs.items c.plan_next.new.plans (sym c.loop-k.pairs.ok.0)
    (after.size ∙ sym c.loop-k.invariant.planned.size) in
    record { planned = rw back after; gross_room = c.plan_next.ensures.gross_room }

pub plan_next-requires-clause-sized : goal.plan_next-requires-clause-sized
plan_next-requires-clause-sized c = c.network-network.ensures.sized

pub plan_next-requires-clause-needs : goal.plan_next-requires-clause-needs
plan_next-requires-clause-needs c = c.network-network.ensures.needs

pub plan_next-requires-clause-order : goal.plan_next-requires-clause-order
plan_next-requires-clause-order c = c.in_code_order-order.ensures.planning

pub plan_next-requires-clause-place : goal.plan_next-requires-clause-place
plan_next-requires-clause-place c = c.loop-k-test.true

pub plan_next-requires-clause-before : goal.plan_next-requires-clause-before
plan_next-requires-clause-before c = rw c.as_mut_slice.ensures.value c.loop-k.invariant.planned

pub plan_next-requires-clause-gross_room : goal.plan_next-requires-clause-gross_room
plan_next-requires-clause-gross_room c = c.loop-k.invariant.gross_room
