use Rattle.mrp_agent.specs.Drafts.{ready_numbers}
use Rattle.mrp_world.proofs.AgentPlans.{has_own, plans_within, planned_could, planned_shows, unplanned_could_not}
use Rattle.mrp_world.proofs.agents.AgentPlant.plan.Goals as goal

pub plan-requires-clause-own : goal.plan-requires-clause-own
plan-requires-clause-own c = has_own c.args.self.now c.args.x c.requires.pair

pub plan-requires-clause-within : goal.plan-requires-clause-within
plan-requires-clause-within c =
    plans_within c.args.self.now c.ready_pairs-ready.result.now (ready_numbers c.args.self.now) c.ready_pairs-ready.ensures.numbers
    c.ready_pairs-ready.ensures.exact c.args.x c.requires.pair

pub returns-clause-can : goal.returns-clause-can
returns-clause-can c =
    planned_could c.args.self.now c.ready_pairs-ready.result.now
    (ready_numbers c.args.self.now) c.ready_pairs-ready.ensures.numbers c.ready_pairs-ready.ensures.exact c.args.x
    c.plan.result c.plan.ensures.can

pub returns-clause-planned : goal.returns-clause-planned
returns-clause-planned c = planned_shows c.args.self.now c.plan.new.self c.args.x c.plan.result c.plan.ensures.view c.plan.ensures.planned

pub returns-clause-cannot : goal.returns-clause-cannot
returns-clause-cannot c =
    unplanned_could_not c.args.self.now c.ready_pairs-ready.result.now
    (ready_numbers c.args.self.now) c.ready_pairs-ready.ensures.numbers c.ready_pairs-ready.ensures.exact c.args.x
    c.plan.result c.plan.ensures.can
