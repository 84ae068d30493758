use Rattle.mrp_crew.proofs.PlanningLaws.{planning_keeps_at_work}
use Rattle.mrp_crew.proofs.laws.planning_keeps_agents_at_work.Goals as goal

pub returns : goal.returns
returns c = planning_keeps_at_work
