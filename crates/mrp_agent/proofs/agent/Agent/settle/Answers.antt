use Rattle.std.proofs.Common.{◌≡◌, sym, ap, ◌∙◌, arith}
use Rattle.mrp_agent.specs.Fields.{indexes_of}
use Rattle.mrp_agent.specs.State.{AgentState}
use Rattle.mrp_agent.specs.Drafts.{drafted}
use Rattle.mrp_agent.specs.contracts.agent.Agent.{the_view}
use Rattle.mrp_agent.proofs.Rooms.{kept_written, plans_written, same_periods}
use Rattle.mrp_agent.proofs.Placing.{IsAtPlace, own_is_found, place_is_found, place_within, ready_at}
use Rattle.mrp_agent.proofs.Planned.{HasPlanned, has_planned}
use Rattle.mrp_agent.proofs.agent.Agent.settle.Goals as goal
use Rattle.mrp_agent.proofs.agent.Agent.settle.Goals.{After-mark_planned, In-Some}

pub unreachable-requires : goal.unreachable-requires
unreachable-requires c = c.in_default.not-Some _ (c.place.ensures ∙ own_is_found c.args.x c.self.view_is c.requires.can.own)

placed : (c : In-Some) → IsAtPlace (the_view c.self.inside) (indexes_of c.self.inside) c.args.x c.in-Some.place
placed c = place_is_found c.self.view_is c.self.invariant c.requires.can.own c.place.ensures c.in-Some.is

is_draft : (c : In-Some) → c.args.plan.now ≡ drafted (the_view c.self.inside) c.args.x
is_draft c = c.requires.draft ∙ ap (λ (a : AgentState). drafted a c.args.x) (sym c.self.view_is)

pub index_mut-requires : goal.index_mut-requires
index_mut-requires c =
    omega (arith, place_within (placed (goal.at.index_mut-requires c).In-Some), c.self.invariant.rooms.plans.count, c.self.inside.amounts.plans.ok.0)

pub copy_from-requires : goal.copy_from-requires
copy_from-requires c =
    let here = (goal.at.copy_from-requires c).In-Some in
    same_periods (placed here) c.index_mut.ensures.value (is_draft here)

pub invariant_of-self : goal.invariant_of-self
invariant_of-self c =
    let here = (goal.at.invariant_of-self c).In-Some in
    kept_written (placed here) (c.copy_from.ensures ∙ is_draft here) c.self.invariant.indexes.room

pub mark_planned-requires-clause-ready : goal.mark_planned-requires-clause-ready
mark_planned-requires-clause-ready c =
    ready_at c.self.view_is (placed (goal.at.mark_planned-requires-clause-ready c).In-Some) c.ready_pairs-ready.ensures.listed c.requires.can.ready

pub mark_planned-requires-clause-free : goal.mark_planned-requires-clause-free
mark_planned-requires-clause-free c =
    let ready = ready_at c.self.view_is (placed (goal.at.mark_planned-requires-clause-free c).In-Some) c.ready_pairs-ready.ensures.listed c.requires.can.ready
    in
    (c.ready_pairs-ready.ensures.listed.exact c.in-Some.place).0 ready

planned : (c : After-mark_planned) → HasPlanned c.args.self.now c.args.x c.mark_planned.new.self
planned c =
    let is = c.copy_from.ensures ∙ c.requires.draft ∙ ap (λ (a : AgentState). drafted a c.args.x) (sym c.self.view_is) in
    has_planned c.self.view_is (place_is_found c.self.view_is c.self.invariant c.requires.can.own c.place.ensures c.in-Some.is) c.requires.can
    c.ready_pairs-ready.ensures.listed (plans_written c.args.x c.in-Some.place c.self.view_is is) c.mark_planned.ensures

pub returns-clause-planned : goal.returns-clause-planned
returns-clause-planned c = (planned (goal.at.returns-clause-planned c).After-mark_planned).shows

pub returns-clause-others : goal.returns-clause-others
returns-clause-others c = (planned (goal.at.returns-clause-others c).After-mark_planned).others

pub returns-clause-drafts : goal.returns-clause-drafts
returns-clause-drafts c = (planned (goal.at.returns-clause-drafts c).After-mark_planned).drafts

pub returns-clause-view : goal.returns-clause-view
returns-clause-view c = (planned (goal.at.returns-clause-view c).After-mark_planned).view

pub returns-clause-left : goal.returns-clause-left
returns-clause-left c = (planned (goal.at.returns-clause-left c).After-mark_planned).left

pub returns-clause-kept : goal.returns-clause-kept
returns-clause-kept c = (planned (goal.at.returns-clause-kept c).After-mark_planned).kept ∙ sym c.requires.draft
