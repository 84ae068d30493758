use Rattle.mrp_world.proofs.Worlds as world
use Rattle.mrp_world.proofs.world.World.steps_left.Goals as goal

pub returns-clause-shows : goal.returns-clause-shows
returns-clause-shows g c = world.shows_some g.P.Plant.shows _ _ c.self.view_is c.self.invariant
