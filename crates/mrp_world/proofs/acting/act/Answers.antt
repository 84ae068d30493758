use Rattle.std.proofs.Common.{sym, subst}
use Rattle.mrp_protocol.specs.declared.event.Event.{Event}
use Rattle.mrp_world.specs.Moves.{Acts}
use Rattle.mrp_world.proofs.acting.act.Goals as goal

pub returns-in-Send : goal.returns-in-Send
returns-in-Send g c =
    subst (λ (event : Event). Acts g.P.Plant.shows c.args.network.now c.args.plants.now c.args.boxes.now event c.send.result c.send.new.plants c.send.new.boxes)
    (sym c.in-Send.is) c.send.ensures

pub returns-in-Receive : goal.returns-in-Receive
returns-in-Receive g c =
    subst (λ (event : Event). Acts g.P.Plant.shows c.args.network.now c.args.plants.now c.args.boxes.now event c.receive.result c.receive.new.plants
    c.receive.new.boxes) (sym c.in-Receive.is) c.receive.ensures

pub returns-in-Plan : goal.returns-in-Plan
returns-in-Plan g c =
    subst (λ (event : Event). Acts g.P.Plant.shows c.args.network.now c.args.plants.now c.args.boxes.now event c.plan.result c.plan.new.plants
    c.args.boxes.now) (sym c.in-Plan.is) (c.plan.ensures c.args.boxes.now)
