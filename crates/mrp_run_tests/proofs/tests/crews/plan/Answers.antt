use Rattle.mrp_crew.proofs.PlanningLaws.{plannable_after}
use Rattle.mrp_run_tests.proofs.tests.crews.plan.Goals as goal

pub returns-clause-view : goal.returns-clause-view
returns-clause-view g c = c.plan_ready.ensures.planned.1.view

pub returns-clause-plannable : goal.returns-clause-plannable
returns-clause-plannable g c =
    plannable_after c.args.agent.now c.plan_ready.new.agent c.plan_ready.ensures.planned.0 c.requires.plannable c.plan_ready.ensures.planned.1
