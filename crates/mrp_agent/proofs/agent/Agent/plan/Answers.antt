use Rattle.std.proofs.Common.{◌≡◌, refl, sym, ap, ◌∙◌, subst}
use Rattle.std.specs.List.{Contains}
use Rattle.std.proofs.lemmas.Bool.{false≢true, OnFalse_from, OnTrue_from}
use Rattle.mrp_readiness.specs.Progress.{IsFree, Progress}
use Rattle.mrp_agent.specs.Fields.{indexes_of}
use Rattle.mrp_agent.specs.State.{AgentState, pair_place}
use Rattle.mrp_agent.specs.contracts.agent.Agent.{the_view}
use Rattle.mrp_agent.proofs.Placing.{IsAtPlace, can_draft, own_is_found, place_is_found, ready_at, ready_from}
use Rattle.mrp_agent.proofs.Plannable.{can_exactly}
use Rattle.mrp_agent.proofs.Planned.{HasPlanned, has_planned}
use Rattle.mrp_agent.proofs.agent.Agent.plan.Goals as goal
use Rattle.mrp_agent.proofs.agent.Agent.plan.Goals.{After-mark_planned, After-write_plan, In-Some}

pub unreachable-requires : goal.unreachable-requires
unreachable-requires c = c.in_default.not-Some _ (c.place.ensures ∙ own_is_found c.args.x c.self.view_is c.requires.own)

placed : (c : In-Some) → IsAtPlace (the_view c.self.inside) (indexes_of c.self.inside) c.args.x c.in-Some.place
placed c = place_is_found c.self.view_is c.self.invariant c.requires.own c.place.ensures c.in-Some.is

pub write_plan-requires-clause-can : goal.write_plan-requires-clause-can
write_plan-requires-clause-can c =
    let here = placed (goal.at.write_plan-requires-clause-can c).In-Some in
    can_draft c.self.view_is here c.requires.own (c.is_ready-can.ensures.ready.0 c.if-can.true) c.requires.within

planned : (c : After-mark_planned) → HasPlanned c.args.self.now c.args.x c.mark_planned.new.self
planned c =
    let here = place_is_found {x = c.args.x} c.self.view_is c.self.invariant c.requires.own c.place.ensures c.in-Some.is in
    let can = can_draft c.self.view_is here c.requires.own (c.is_ready-can.ensures.ready.0 c.if-can.true) c.requires.within in
    has_planned c.self.view_is here can c.ready_pairs-ready.ensures.listed c.write_plan.ensures c.mark_planned.ensures

still_ready : (c : After-write_plan) → c.self.inside.structure.progress ≡ c.write_plan.new.self.progress
still_ready c = ap (λ (a : AgentState). a.progress) c.self.view_is ∙ sym (ap (λ (a : AgentState). a.progress) c.write_plan.ensures)

pub write_plan-requires-clause-place : goal.write_plan-requires-clause-place
write_plan-requires-clause-place c =
    (placed (goal.at.write_plan-requires-clause-place c).In-Some).at ∙ ap (λ (a : AgentState). pair_place a.view c.args.x.0) c.self.view_is

pub mark_planned-requires-clause-ready : goal.mark_planned-requires-clause-ready
mark_planned-requires-clause-ready c =
    let same = still_ready (goal.at.mark_planned-requires-clause-ready c).After-write_plan in
    subst (λ (p : Progress). Contains p.ready c.in-Some.place) same (c.is_ready-can.ensures.ready.0 c.if-can.true)

pub mark_planned-requires-clause-free : goal.mark_planned-requires-clause-free
mark_planned-requires-clause-free c =
    let same = still_ready (goal.at.mark_planned-requires-clause-free c).After-write_plan in
    subst (λ (p : Progress). IsFree p.waits p.planned c.in-Some.place) same (c.is_ready-can.ensures.free.0 c.if-can.true)

pub returns-then-can-clause-can : goal.returns-then-can-clause-can
returns-then-can-clause-can c =
    let here = placed (goal.at.returns-then-can-clause-can c).In-Some in
    (λ _. ready_from c.self.view_is here (c.is_ready-can.ensures.ready.0 c.if-can.true), λ _. c.if-can.true)

pub returns-then-can-clause-exact : goal.returns-then-can-clause-exact
returns-then-can-clause-exact c =
    let here = placed (goal.at.returns-then-can-clause-exact c).In-Some in
    can_exactly c.self.view_is here c.ready_pairs-ready.ensures.listed c.is_ready-can.result
    (λ _. ready_from c.self.view_is here (c.is_ready-can.ensures.ready.0 c.if-can.true), λ _. c.if-can.true)

pub returns-then-can-clause-planned : goal.returns-then-can-clause-planned
returns-then-can-clause-planned c = OnTrue_from c.is_ready-can.result _ (λ _. (planned (goal.at.returns-then-can-clause-planned c).After-mark_planned).shows)

pub returns-else-can-clause-can : goal.returns-else-can-clause-can
returns-else-can-clause-can c =
    let here = placed (goal.at.returns-else-can-clause-can c).In-Some in
    (λ h. absurd (false≢true (sym c.if-can.false ∙ h)), λ h. c.is_ready-can.ensures.ready.1 (ready_at c.self.view_is here c.ready_pairs-ready.ensures.listed h))

pub returns-else-can-clause-exact : goal.returns-else-can-clause-exact
returns-else-can-clause-exact c =
    let here = placed (goal.at.returns-else-can-clause-exact c).In-Some in
    can_exactly c.self.view_is here c.ready_pairs-ready.ensures.listed c.is_ready-can.result
    (λ h. absurd (false≢true (sym c.if-can.false ∙ h)), λ h. c.is_ready-can.ensures.ready.1 (ready_at c.self.view_is here c.ready_pairs-ready.ensures.listed h))

pub returns-then-can-clause-others : goal.returns-then-can-clause-others
returns-then-can-clause-others c = OnTrue_from c.is_ready-can.result _ (λ _. (planned (goal.at.returns-then-can-clause-others c).After-mark_planned).others)

pub returns-then-can-clause-drafts : goal.returns-then-can-clause-drafts
returns-then-can-clause-drafts c = OnTrue_from c.is_ready-can.result _ (λ _. (planned (goal.at.returns-then-can-clause-drafts c).After-mark_planned).drafts)

pub returns-then-can-clause-view : goal.returns-then-can-clause-view
returns-then-can-clause-view c = (planned (goal.at.returns-then-can-clause-view c).After-mark_planned).view

pub returns-then-can-clause-kept : goal.returns-then-can-clause-kept
returns-then-can-clause-kept c = OnTrue_from c.is_ready-can.result _ (λ _. (planned (goal.at.returns-then-can-clause-kept c).After-mark_planned).kept)

pub returns-then-can-clause-left : goal.returns-then-can-clause-left
returns-then-can-clause-left c = OnTrue_from c.is_ready-can.result _ (λ _. (planned (goal.at.returns-then-can-clause-left c).After-mark_planned).left)

pub returns-then-can-clause-unchanged : goal.returns-then-can-clause-unchanged
returns-then-can-clause-unchanged c = OnFalse_from c.is_ready-can.result _ (λ e. absurd (false≢true (sym e ∙ c.if-can.true)))

pub returns-else-can-clause-planned : goal.returns-else-can-clause-planned
returns-else-can-clause-planned c = OnTrue_from c.is_ready-can.result _ (λ e. absurd (false≢true (sym c.if-can.false ∙ e)))

pub returns-else-can-clause-kept : goal.returns-else-can-clause-kept
returns-else-can-clause-kept c = OnTrue_from c.is_ready-can.result _ (λ e. absurd (false≢true (sym c.if-can.false ∙ e)))

pub returns-else-can-clause-left : goal.returns-else-can-clause-left
returns-else-can-clause-left c = OnTrue_from c.is_ready-can.result _ (λ e. absurd (false≢true (sym c.if-can.false ∙ e)))

pub returns-else-can-clause-others : goal.returns-else-can-clause-others
returns-else-can-clause-others c = OnTrue_from c.is_ready-can.result _ (λ e. absurd (false≢true (sym c.if-can.false ∙ e)))

pub returns-else-can-clause-drafts : goal.returns-else-can-clause-drafts
returns-else-can-clause-drafts c = OnTrue_from c.is_ready-can.result _ (λ e. absurd (false≢true (sym c.if-can.false ∙ e)))

pub returns-else-can-clause-view : goal.returns-else-can-clause-view
returns-else-can-clause-view c = refl

pub returns-else-can-clause-unchanged : goal.returns-else-can-clause-unchanged
returns-else-can-clause-unchanged c = OnFalse_from c.is_ready-can.result _ (λ _. refl)
