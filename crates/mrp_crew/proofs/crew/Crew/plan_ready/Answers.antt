use Rattle.std.proofs.Common.{[], ◌++◌, refl, ap, ◌∙◌, sym, subst, arith}
use Rattle.std.proofs.lemmas.Result.{err_from_is_err_and}
use Rattle.mrp_agent.specs.Drafts.{ready_numbers}
use Rattle.mrp_plant_view.specs.View.{PlantRows}
use Rattle.mrp_crew.specs.Shut.{WasShutToWorker}
use Rattle.mrp_crew.specs.State.{CrewState}
use Rattle.mrp_crew.proofs.Keeping.{none_ready, some_ready}
use Rattle.mrp_crew.proofs.PlanningLaws.{plannable_after, plans_append, plans_none}
use Rattle.mrp_crew.proofs.crew.Crew.plan_ready.Goals as goal

pub loop-alloc-preserved : goal.loop-alloc-preserved
loop-alloc-preserved g c =
    let before = c.loop-alloc.invariant in
    let next = c.plan_wave.ensures.planned in
    record {
      crew = c.plan_wave.ensures.crew ∙ before.crew;
      planned = (
        before.planned.0 ++ next.0,
        plans_append c.args.agent.now c.loop-alloc.agent c.plan_wave.new.agent before.planned.0 next.0 before.planned.1
            next.1,
      );
      plannable = plannable_after c.loop-alloc.agent c.plan_wave.new.agent next.0 before.plannable next.1;
    }

pub returns-in_err-plan_wave-clause-planned : goal.returns-in_err-plan_wave-clause-planned
returns-in_err-plan_wave-clause-planned g c =
    let before = c.loop-alloc.invariant in
    let next = c.plan_wave.ensures.planned in
    let p = err_from_is_err_and c.from_residual.result c.from_residual.ensures.1 in
    rw p.1 (
      before.planned.0 ++ next.0,
      plans_append c.args.agent.now c.loop-alloc.agent c.plan_wave.new.agent before.planned.0 next.0 before.planned.1 next.1,
      tt,
    )

pub returns-clause-planned : goal.returns-clause-planned
returns-clause-planned g c =
    let before = c.loop-alloc.invariant in (
      before.planned.0,
      before.planned.1,
      (
        omega (arith, before.planned.1.left, c.left-before.ensures.count, c.left.ensures.count),
        none_ready (ready_numbers c.loop-alloc.agent) c.ready.result c.ready.ensures.first (sym c.is_some.ensures ∙ c.loop-alloc-test.false),
      ),
    )

pub returns-in_err-plan_wave-clause-shut : goal.returns-in_err-plan_wave-clause-shut
returns-in_err-plan_wave-clause-shut g c =
    let p = err_from_is_err_and c.from_residual.result c.from_residual.ensures.1 in
    rw (p.1, p.2) (λ is. subst (λ (crew : CrewState). WasShutToWorker g.G.Gate.worker_shut crew.workers c.args.plant) c.loop-alloc.invariant.crew
    (c.in_err-plan_wave.ensures.shut is))

pub returns-in_err-plan_wave-clause-refused : goal.returns-in_err-plan_wave-clause-refused
returns-in_err-plan_wave-clause-refused g c =
    let p = err_from_is_err_and c.from_residual.result c.from_residual.ensures.1 in
    rw (p.1, p.2) (λ is. omega (arith, c.in_err-plan_wave.ensures.refused is, ap (λ (crew : CrewState). crew.workers) c.loop-alloc.invariant.crew))

pub loop-alloc-init : goal.loop-alloc-init
loop-alloc-init g c = record { crew = refl; planned = ([], plans_none c.args.agent.now); plannable = c.requires.plannable }

pub plan_wave-requires-clause-plannable : goal.plan_wave-requires-clause-plannable
plan_wave-requires-clause-plannable g c κs within = c.loop-alloc.invariant.plannable

pub plan_wave-requires-clause-horizon : goal.plan_wave-requires-clause-horizon
plan_wave-requires-clause-horizon g c κs within =
    let before = c.loop-alloc.invariant in
    ap (λ (crew : CrewState). crew.horizon) before.crew ∙ c.requires.horizon ∙ sym (ap (λ (V : PlantRows). V.horizon) before.planned.1.view)

pub plan_wave-requires-clause-ready : goal.plan_wave-requires-clause-ready
plan_wave-requires-clause-ready g c κs within =
    some_ready (ready_numbers c.loop-alloc.agent) c.ready.result c.ready.ensures.first (sym c.is_some.ensures ∙ c.loop-alloc-test.true)

pub loop-alloc-smaller : goal.loop-alloc-smaller
loop-alloc-smaller g c =
    let next = c.in_ok-plan_wave.ensures.planned in
    omega (arith, next.1.left, next.2)

pub returns-in_err-plan_wave-clause-crew : goal.returns-in_err-plan_wave-clause-crew
returns-in_err-plan_wave-clause-crew g c = c.plan_wave.ensures.crew ∙ c.loop-alloc.invariant.crew

pub overflow_sub-result : goal.overflow_sub-result
overflow_sub-result g c = omega (arith, c.loop-alloc.invariant.planned.1.left, c.left-before.ensures.count, c.left.ensures.count)

pub returns-clause-crew : goal.returns-clause-crew
returns-clause-crew g c = c.loop-alloc.invariant.crew
