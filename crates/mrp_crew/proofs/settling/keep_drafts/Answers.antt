use Rattle.std.proofs.Common.{◌≡◌, true, Some, [], ◌∷◌, ◌++◌, length, reverse, List, refl, ap, subst, arith, length-append}
use Rattle.std.proofs.lemmas.List.Elements.{All-pop}
use Rattle.mrp_plant_view.specs.View.{PlantRows}
use Rattle.mrp_agent.specs.State.{AgentState}
use Rattle.mrp_crew.specs.declared.work.Work.{Work}
use Rattle.mrp_crew.specs.Rooms.{IsRoom}
use Rattle.mrp_crew.proofs.Keeping.{first_ready, first_worked, popped_first, still_to_settle, when_true, where_true}
use Rattle.mrp_crew.proofs.PlanningLaws.{plannable_after, plans_append, plans_none}
use Rattle.mrp_crew.proofs.settling.keep_drafts.Goals as goal

pub keep_draft-kept-requires-clause-ready : goal.keep_draft-kept-requires-clause-ready
keep_draft-kept-requires-clause-ready c =
    first_ready c.loop-work.agent c.in-Some.work (reverse c.pop.new.self.items)
    (popped_first c.loop-work.agent c.loop-work.works.items c.pop.new.self.items c.in-Some.work c.in-Some.ensures.items c.loop-work.invariant.drafts)

pub keep_draft-kept-requires-clause-worked : goal.keep_draft-kept-requires-clause-worked
keep_draft-kept-requires-clause-worked c =
    first_worked c.loop-work.agent c.in-Some.work (reverse c.pop.new.self.items)
    (popped_first c.loop-work.agent c.loop-work.works.items c.pop.new.self.items c.in-Some.work c.in-Some.ensures.items c.loop-work.invariant.drafts)

pub loop-work-preserved : goal.loop-work-preserved
loop-work-preserved c =
    let before = c.loop-work.invariant in
    let work : Work = c.in-Some.work in
    let first : AgentState = c.args.agent.now in
    let A : AgentState = c.loop-work.agent in
    let B : AgentState = c.keep_draft-kept.new.agent in
    let rest : List Work = c.pop.new.self.items in
    let popped = c.in-Some.ensures.items in
    let are = popped_first A c.loop-work.works.items rest work popped before.drafts in
    let next = c.keep_draft-kept.ensures.planned in
    let room : IsRoom first.view.horizon work.room = subst (λ (V : PlantRows). IsRoom V.horizon work.room) before.planned.1.view
    (first_worked A work (reverse rest) are).room in
    record {
      planned = (
        before.planned.0 ++ next.0,
        plans_append first A B before.planned.0 next.0 before.planned.1 next.1,
        (λ all.
            let kept = when_true c.keep_draft-kept.result _ next.2 all in
            omega (arith, length-append before.planned.0 next.0, before.planned.2 kept.0, kept.1, ap length popped, length-append rest (work ∷ []))),
      );
      plannable = plannable_after A B next.0 before.plannable next.1;
      drafts = still_to_settle A B work (reverse rest) are next.1.view c.keep_draft-kept.ensures.others;
      let_in = λ each.
          let so_far = before.let_in each in
          let parts = All-pop (λ (w : Work). w.open ≡ true) c.loop-work.works.items rest (Some work) popped so_far.1 in
          (c.keep_draft-kept.ensures.let_in so_far.0 parts.1, parts.0);
      rooms = c.put_back.ensures first.view.horizon before.rooms room;
    }

pub returns-clause-let_in : goal.returns-clause-let_in
returns-clause-let_in c = λ each. (c.loop-work.invariant.let_in each).0

pub loop-work-init : goal.loop-work-init
loop-work-init c = record {
  planned = ([], plans_none c.args.agent.now, λ all. omega arith);
  plannable = c.requires.plannable;
  drafts = c.requires.drafts;
  let_in = λ each. (refl, each);
  rooms = c.requires.rooms;
}

pub keep_draft-kept-requires-clause-plannable : goal.keep_draft-kept-requires-clause-plannable
keep_draft-kept-requires-clause-plannable c = c.loop-work.invariant.plannable

pub loop-work-smaller : goal.loop-work-smaller
loop-work-smaller c = omega (arith, ap length c.in-Some.ensures.items, length-append c.pop.new.self.items (c.in-Some.work ∷ []))

pub returns-clause-rooms : goal.returns-clause-rooms
returns-clause-rooms c = c.loop-work.invariant.rooms

pub returns-clause-planned : goal.returns-clause-planned
returns-clause-planned c =
    let so_far = c.loop-work.invariant.planned in (
      so_far.0,
      so_far.1,
      where_true c.loop-work.all _ (λ all. omega (arith, so_far.2 all, c.in_default.ensures.cases.0, c.loop-work.works.ok.0)),
    )
