use Rattle.std.proofs.Common.{[], ◌∷◌, ap, arith, get_or, length, subst, Contains}
use Rattle.std.proofs.lemmas.List.Elements.{Contains-get_or}
use Rattle.mrp_master_data.specs.declared.numbers.PairNo.{PairNo}
use Rattle.mrp_agent.specs.State.{AgentState}
use Rattle.mrp_crew.proofs.Keeping.{when_true}
use Rattle.mrp_crew.proofs.PlanningLaws.{plans_one}
use Rattle.mrp_crew.proofs.Ready.{can_draft, unplanned}
use Rattle.mrp_crew.proofs.crew.Crew.plan_wave.Goals as goal

pub plan-requires-clause-within : goal.plan-requires-clause-within
plan-requires-clause-within g c = λ listed.
    let ready = c.ready_pairs-ready in
    (can_draft c.args.agent.now c.requires.plannable ready.result.now ready.ensures.numbers ready.ensures.own ready.ensures.exact
    (get_or ready.result.now 0 (record { 0 = 0 })) listed).within

pub returns-clause-planned : goal.returns-clause-planned
returns-clause-planned g c =
    let A : AgentState = c.args.agent.now in
    let ready = c.ready_pairs-ready in
    let x : PairNo = get_or ready.result.now 0 (record { 0 = 0 }) in
    let some = ap length ready.ensures.numbers in
    let listed = subst (λ z. Contains z x) ready.ensures.numbers (Contains-get_or ready.result.now 0 (record { 0 = 0 }) (omega (arith, c.requires.ready, some)))
    in
    let could = c.plan.ensures.can.1 listed in
    let fresh = unplanned A c.requires.plannable ready.result.now ready.ensures.numbers ready.ensures.own ready.ensures.exact x listed in (
      x ∷ [],
      plans_one A c.plan.new.self x c.plan.ensures.view (when_true c.plan.result _ c.plan.ensures.left could) fresh
          (when_true c.plan.result _ c.plan.ensures.planned could),
      omega arith,
    )
