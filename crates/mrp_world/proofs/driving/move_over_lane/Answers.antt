use Rattle.mrp_world.specs.Driving.{LeadOn}
use Rattle.mrp_world.proofs.Drives as drive
use Rattle.mrp_world.proofs.driving.move_over_lane.Goals as goal

pub move_one-requires-in-loop-record-clause-shown : goal.move_one-requires-in-loop-record-clause-shown
move_one-requires-in-loop-record-clause-shown g c = drive.on_somewhere c.requires.shown c.loop-record.invariant

pub loop-record-preserved : goal.loop-record-preserved
loop-record-preserved g c = drive.on_and_on c.loop-record.invariant (drive.on_at_all c.if-not-move_one-2.ensures)

pub returns-then-not-move_one-2 : goal.returns-then-not-move_one-2
returns-then-not-move_one-2 g c =
    drive.still_has (λ p b. LeadOn g.P.Plant.shows c.args.network.now c.args.plants.now c.args.boxes.now 1 p b) c.if-not-move_one-2.ensures
    c.loop-record.invariant
