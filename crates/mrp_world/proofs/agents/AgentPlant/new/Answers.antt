use Rattle.mrp_world.proofs.AgentWorks.{seen_enough, seen_opens_small}
use Rattle.mrp_world.proofs.agents.AgentPlant.new.Goals as goal

pub new-requires-clause-seen : goal.new-requires-clause-seen
new-requires-clause-seen c = seen_enough c.args.view c.requires.seen

pub new-requires-clause-openings : goal.new-requires-clause-openings
new-requires-clause-openings c = seen_opens_small c.args.view c.requires.seen
