use Rattle.mrp_world.proofs.Holding as hold
use Rattle.mrp_world.proofs.laws.plans_are_local.Goals as goal

pub returns : goal.returns
returns g c = hold.plans_are_local g.P.Plant.shows g.P.Plant.kept g.met.P.Plant.local c.args.world.now
