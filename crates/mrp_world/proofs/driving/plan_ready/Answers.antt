use Rattle.mrp_world.specs.Driving.{LeadOn}
use Rattle.mrp_world.proofs.Drives as drive
use Rattle.mrp_world.proofs.driving.plan_ready.Goals as goal

pub plan_one-requires-in-loop-pair-clause-shown : goal.plan_one-requires-in-loop-pair-clause-shown
plan_one-requires-in-loop-pair-clause-shown g c =
    let some = c.requires.shown in
    (some.0, drive.on_somewhere some.1 (c.loop-pair.invariant some.0))

pub loop-pair-preserved : goal.loop-pair-preserved
loop-pair-preserved g c boxes = drive.on_and_on (c.loop-pair.invariant boxes) (drive.on_at_all (c.if-not-plan_one-2.ensures boxes))

pub returns-then-not-plan_one-2 : goal.returns-then-not-plan_one-2
returns-then-not-plan_one-2 g c boxes =
    drive.still_has (λ p b. LeadOn g.P.Plant.shows c.args.network.now c.args.plants.now boxes 1 p b) (c.if-not-plan_one-2.ensures boxes)
    (c.loop-pair.invariant boxes)
