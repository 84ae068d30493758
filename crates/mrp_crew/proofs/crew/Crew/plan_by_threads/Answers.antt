use Rattle.std.proofs.Common.{[], ap, sym, ◌∙◌, subst, arith, All}
use Rattle.std.proofs.lemmas.Result.{err_from_is_err_and}
use Rattle.mrp_crew.proofs.Keeping.{when_true, where_err, where_ok}
use Rattle.mrp_crew.proofs.PlanningLaws.{plans_none}
use Rattle.mrp_crew.proofs.ShutGates.{memory_is_no_gate, memory_is_no_thread, shut_to_one}
use Rattle.mrp_crew.specs.Rooms.{IsRoom}
use Rattle.mrp_crew.specs.Shut.{WasShutToWorker}
use Rattle.mrp_crew.specs.State.{CrewState}
use Rattle.mrp_crew.proofs.crew.Crew.plan_by_threads.Goals as goal

pub returns-in_err-refill-clause-planned : goal.returns-in_err-refill-clause-planned
returns-in_err-refill-clause-planned g c =
    let p = err_from_is_err_and c.from_residual.result c.from_residual.ensures.1 in
    rw p.1 ([], plans_none c.args.agent.now, tt)

pub returns-in_err-drafts-clause-planned : goal.returns-in_err-drafts-clause-planned
returns-in_err-drafts-clause-planned g c =
    let p = err_from_is_err_and c.from_residual-in_err-drafts.result c.from_residual-in_err-drafts.ensures.1 in
    rw p.1 ([], plans_none c.args.agent.now, tt)

pub returns-in_err-refill-clause-shut : goal.returns-in_err-refill-clause-shut
returns-in_err-refill-clause-shut g c =
    let p = err_from_is_err_and c.from_residual.result c.from_residual.ensures.1 in
    rw p.1 (λ is. absurd (memory_is_no_gate p.0 p.2 is))

pub returns-in_err-drafts-clause-shut : goal.returns-in_err-drafts-clause-shut
returns-in_err-drafts-clause-shut g c =
    let p = err_from_is_err_and c.from_residual-in_err-drafts.result c.from_residual-in_err-drafts.ensures.1 in
    rw p.1 (λ is. absurd (memory_is_no_gate p.0 p.2 is))

pub keep_drafts-open-requires-clause-drafts : goal.keep_drafts-open-requires-clause-drafts
keep_drafts-open-requires-clause-drafts g c = c.in_ok-drafts.ensures.drafts

pub refill-requires : goal.refill-requires
refill-requires g c = record { rooms = c.self.invariant.2 }

pub invariant_of-self : goal.invariant_of-self
invariant_of-self g c = (c.self.invariant.0, c.self.invariant.1, c.refill.ensures.rooms)

pub returns-in_err-refill-clause-crew : goal.returns-in_err-refill-clause-crew
returns-in_err-refill-clause-crew g c = c.self.view_is

pub draft_ready-requires-clause-plannable : goal.draft_ready-requires-clause-plannable
draft_ready-requires-clause-plannable g c κs within = c.requires.plannable

pub draft_ready-requires-clause-ready : goal.draft_ready-requires-clause-ready
draft_ready-requires-clause-ready g c κs within = c.requires.ready

pub draft_ready-requires-clause-workers : goal.draft_ready-requires-clause-workers
draft_ready-requires-clause-workers g c κs within = (c.self.invariant.0, c.self.invariant.1)

pub draft_ready-requires-clause-rooms : goal.draft_ready-requires-clause-rooms
draft_ready-requires-clause-rooms g c κs within =
    let same = ap (λ (crew : CrewState). crew.horizon) c.self.view_is ∙ c.requires.horizon in
    subst (λ h. All (IsRoom h) c.refill.new.rooms.items) same c.refill.ensures.rooms

pub draft_ready-requires-clause-enough : goal.draft_ready-requires-clause-enough
draft_ready-requires-clause-enough g c κs within = c.in_ok-refill.ensures.enough

pub invariant_of-self-in_err-drafts : goal.invariant_of-self-in_err-drafts
invariant_of-self-in_err-drafts g c =
    let same = ap (λ (crew : CrewState). crew.horizon) c.self.view_is ∙ c.requires.horizon in
    (c.self.invariant.0, c.self.invariant.1, subst (λ h. All (IsRoom h) c.draft_ready.new.rooms.items) (sym same) c.draft_ready.ensures.rooms)

pub returns-in_err-drafts-clause-crew : goal.returns-in_err-drafts-clause-crew
returns-in_err-drafts-clause-crew g c = c.self.view_is

pub keep_drafts-open-requires-clause-plannable : goal.keep_drafts-open-requires-clause-plannable
keep_drafts-open-requires-clause-plannable g c = c.requires.plannable

pub keep_drafts-open-requires-clause-rooms : goal.keep_drafts-open-requires-clause-rooms
keep_drafts-open-requires-clause-rooms g c = c.in_ok-drafts.ensures.free

pub returns-clause-crew : goal.returns-clause-crew
returns-clause-crew g c = c.self.view_is

pub invariant_of-self-2 : goal.invariant_of-self-2
invariant_of-self-2 g c =
    let same = ap (λ (crew : CrewState). crew.horizon) c.self.view_is ∙ c.requires.horizon in
    (c.self.invariant.0, c.self.invariant.1, subst (λ h. All (IsRoom h) c.keep_drafts-open.new.rooms.items) (sym same) c.keep_drafts-open.ensures.rooms)

pub returns-clause-planned : goal.returns-clause-planned
returns-clause-planned g c =
    let p = c.keep_drafts-open.ensures.planned in
    let some = c.in_ok-drafts.ensures.some in (
      p.0,
      p.1,
      where_ok c.wave_end.result _ _ c.wave_end.ensures.planned (λ whole.
          let each = when_true c.keep_drafts-open.result _ p.2 whole.1 in
          omega (arith, each, some whole.0)),
    )

pub returns-clause-shut : goal.returns-clause-shut
returns-clause-shut g c =
    where_err c.wave_end.result _ _ c.wave_end.ensures.shut (λ fault shut is.
    subst (λ (crew : CrewState). WasShutToWorker g.G.Gate.worker_shut crew.workers c.args.plant) c.self.view_is
    (shut_to_one (WasShutToWorker g.G.Gate.worker_shut c.self.inside.workers c.args.plant) c.in_ok-drafts.drafts.works.items c.keep_drafts-open.result
    c.in_ok-drafts.ensures.shut
    c.keep_drafts-open.ensures.let_in (shut is)))

pub returns-in_err-refill-clause-refused : goal.returns-in_err-refill-clause-refused
returns-in_err-refill-clause-refused g c =
    let p = err_from_is_err_and c.from_residual.result c.from_residual.ensures.1 in
    rw p.1 (λ is. absurd (memory_is_no_thread p.0 p.2 is))

pub returns-in_err-drafts-clause-refused : goal.returns-in_err-drafts-clause-refused
returns-in_err-drafts-clause-refused g c =
    let p = err_from_is_err_and c.from_residual-in_err-drafts.result c.from_residual-in_err-drafts.ensures.1 in
    rw p.1 (λ is. absurd (memory_is_no_thread p.0 p.2 is))

pub returns-clause-refused : goal.returns-clause-refused
returns-clause-refused g c =
    where_err c.wave_end.result _ _ c.wave_end.ensures.refused (λ fault refused is.
    omega (arith, c.in_ok-drafts.ensures.refused (refused is), ap (λ (crew : CrewState). crew.workers) c.self.view_is))
