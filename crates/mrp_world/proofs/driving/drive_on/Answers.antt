use Rattle.mrp_world.specs.Driving.{LeadOn}
use Rattle.mrp_world.specs.Moves.{AllRests}
use Rattle.mrp_world.proofs.Drives as drive
use Rattle.mrp_world.proofs.driving.drive_on.Goals as goal

pub loop-init : goal.loop-init
loop-init g c = drive.on_nowhere

pub go_on-requires : goal.go_on-requires
go_on-requires g c = record { shown = drive.on_somewhere c.requires.shown c.loop.invariant }

pub loop-preserved : goal.loop-preserved
loop-preserved g c = drive.on_and_on c.loop.invariant c.if-not-go_on.ensures

pub returns-then-not-go_on-clause-runs : goal.returns-then-not-go_on-clause-runs
returns-then-not-go_on-clause-runs g c =
    drive.on_at_all (drive.still_has
    (λ p b. LeadOn g.P.Plant.shows c.args.network.now c.args.plants.now.items c.args.boxes.now.items c.loop.counter p b)
    c.if-not-go_on.ensures c.loop.invariant)

pub returns-then-not-go_on-clause-rests : goal.returns-then-not-go_on-clause-rests
returns-then-not-go_on-clause-rests g c =
    let still = c.if-not-go_on.ensures in
    drive.still_has (AllRests g.P.Plant.shows c.args.network.now) still still.holds

pub returns-clause-runs : goal.returns-clause-runs
returns-clause-runs g c = drive.on_at_all c.loop.invariant

pub returns-clause-rests : goal.returns-clause-rests
returns-clause-rests g c = absurd (drive.never_so_many c.requires.shown c.loop.invariant c.loop-test.false)
