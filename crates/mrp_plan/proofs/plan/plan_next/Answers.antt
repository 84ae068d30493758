use Rattle.mrp_plan.proofs.Next.{next_can, planned_with}
use Rattle.mrp_plan.proofs.plan.plan_next.Goals as goal

pub plan_one-requires-clause-can : goal.plan_one-requires-clause-can
plan_one-requires-clause-can c = next_can c.args.net.now.network _ c.args.net.now.needs c.args.order.now c.args.k c.args.plans.now c.network.ensures.value
    c.requires.sized c.requires.needs c.requires.order c.requires.place c.requires.before

pub returns-clause-after : goal.returns-clause-after
returns-clause-after c =
    planned_with c.args.net.now.network _ c.args.net.now.needs c.args.order.now c.args.k c.args.plans.now c.network.ensures.value c.requires.sized
    c.requires.needs c.requires.order c.requires.place c.requires.before _ c.plan_one.ensures.planned

pub bounds-order-k : goal.bounds-order-k
bounds-order-k c = c.requires.place

pub plan_one-requires-clause-gross_room : goal.plan_one-requires-clause-gross_room
plan_one-requires-clause-gross_room c = rw c.network.ensures.value c.requires.gross_room

pub returns-clause-gross_room : goal.returns-clause-gross_room
returns-clause-gross_room c = rw (← c.network.ensures.value) c.plan_one.ensures.gross_room
