use Rattle.std.proofs.Common.{ap}
use Rattle.mrp_world.proofs.Worlds as world
use Rattle.mrp_world.proofs.world.World.finished.Goals as goal

pub returns-clause-finished : goal.returns-clause-finished
returns-clause-finished g c = world.finished_at _ _ _ (ap (λ w. w.left) c.self.view_is)
