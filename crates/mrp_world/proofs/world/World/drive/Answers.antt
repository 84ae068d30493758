use Rattle.std.proofs.Common.{refl}
use Rattle.mrp_world.proofs.Drives as drive
use Rattle.mrp_world.proofs.Worlds as world
use Rattle.mrp_world.proofs.world.World.drive.Goals as goal

pub invariant_of-self : goal.invariant_of-self
invariant_of-self g c = drive.world_driven _ _ _ _ _ c.drive_on.ensures.rests _ _ _ c.drive_on.ensures.runs c.self.invariant

pub returns-clause-runs : goal.returns-clause-runs
returns-clause-runs g c = drive.world_runs _ _ _ _ _ c.drive_on.ensures.rests _ _ _ c.drive_on.ensures.runs _ c.self.view_is
    c.self.invariant

pub returns-clause-finished : goal.returns-clause-finished
returns-clause-finished g c s shown = world.none_left_is_finished _ _ s shown refl
