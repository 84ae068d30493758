use Rattle.std.proofs.Common.{◌∙◌}
use Rattle.mrp_world.proofs.AgentPlans.{first_can, first_own, none_can}
use Rattle.mrp_world.proofs.agents.AgentPlant.ready.Goals as goal

pub returns-clause-own : goal.returns-clause-own
returns-clause-own c = first_own c.args.self.now c.ready_pairs.result.now c.ready_pairs.ensures.own c.copied.result (c.copied.ensures ∙ c.first.ensures.value)

pub returns-clause-can : goal.returns-clause-can
returns-clause-can c = first_can c.args.self.now c.ready_pairs.result.now c.ready_pairs.ensures.exact c.ready_pairs.ensures.own c.copied.result
    (c.copied.ensures ∙ c.first.ensures.value)

pub returns-clause-none : goal.returns-clause-none
returns-clause-none c = none_can c.args.self.now c.ready_pairs.result.now c.ready_pairs.ensures.exact c.copied.result (c.copied.ensures ∙ c.first.ensures.value)
