use Rattle.mrp_world.proofs.Holding as hold
use Rattle.mrp_world.proofs.laws.headline.Goals as goal

pub returns-clause-shows : goal.returns-clause-shows
returns-clause-shows g c = hold.it_shows g.P.Plant.shows c.args.world.now c.steps_left-left.ensures.shows

pub returns-clause-order : goal.returns-clause-order
returns-clause-order g c = hold.order_is_kept g.P.Plant.shows c.args.world.now

pub returns-clause-figures : goal.returns-clause-figures
returns-clause-figures g c = hold.nothing_is_lost g.P.Plant.shows c.args.world.now

pub returns-clause-closed : goal.returns-clause-closed
returns-clause-closed g c = hold.closed_are_whole g.P.Plant.shows c.args.world.now

pub returns-clause-plans : goal.returns-clause-plans
returns-clause-plans g c = hold.plans_are_the_plan g.P.Plant.shows g.P.Plant.kept g.met.P.Plant.local c.args.world.now

pub returns-clause-finished : goal.returns-clause-finished
returns-clause-finished g c = hold.finished_is_complete g.P.Plant.shows g.P.Plant.kept g.met.P.Plant.local c.args.world.now
