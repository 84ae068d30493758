use Rattle.std.proofs.Common.{◌≡◌, sym, ap, ◌∙◌}
use Rattle.mrp_agent.specs.Asking.{uses_by}
use Rattle.mrp_agent.specs.Drafts.{drafted}
use Rattle.mrp_agent.specs.Fields.{indexes_of}
use Rattle.mrp_agent.specs.State.{AgentState}
use Rattle.mrp_agent.specs.contracts.agent.Agent.{the_view}
use Rattle.mrp_agent.proofs.DraftReads.{HasRead, demand_periods, draft_asked, draft_made, orders_fit, rows_read}
use Rattle.mrp_agent.proofs.Placing.{IsAtPlace, can_before, own_is_found, place_is_found, place_within}
use Rattle.mrp_agent.proofs.agent.Agent.draft_into.Goals as goal
use Rattle.mrp_agent.proofs.agent.Agent.draft_into.Goals.{After-deref-3, In-Some}

pub unreachable-requires : goal.unreachable-requires
unreachable-requires c = c.in_default.not-Some _ (c.place.ensures ∙ own_is_found c.args.x c.self.view_is c.requires.can.own)

placed : (c : In-Some) → IsAtPlace (the_view c.self.inside) (indexes_of c.self.inside) c.args.x c.in-Some.place
placed c = place_is_found c.self.view_is c.self.invariant c.requires.can.own c.place.ensures c.in-Some.is

pub pair_rows-rows-requires-clause-place : goal.pair_rows-rows-requires-clause-place
pair_rows-rows-requires-clause-place c = place_within (placed (goal.at.pair_rows-rows-requires-clause-place c).In-Some)

read : (c : After-deref-3) → IsAtPlace (the_view c.self.inside) (indexes_of c.self.inside) c.args.x c.in-Some.place
    → HasRead (the_view c.self.inside) (indexes_of c.self.inside) c.args.x c.in-Some.place c.planning_terms-terms.result
    c.pair_rows-rows.result.incoming.now c.pair_rows-rows.result.demand.now c.pair_rows-rows.result.edges.now (uses_by c.pair_rows-rows.result)
    c.deref-3.result.now
read c at =
    rows_read at (can_before c.self.view_is c.requires.can) c.deref.ensures.value c.deref-2.ensures.value c.deref-3.ensures.value
    c.planning_terms-terms.ensures.terms c.planning_terms-terms.ensures.orders c.pair_rows-rows.ensures.incoming c.pair_rows-rows.ensures.demand
    c.pair_rows-rows.ensures.edges c.pair_rows-rows.ensures.uses

same_horizon : (c : In-Some) → (the_view c.self.inside).view.horizon ≡ c.args.self.now.view.horizon
same_horizon c = ap (λ (a : AgentState). a.view.horizon) c.self.view_is

pub draft_from-requires-clause-draft : goal.draft_from-requires-clause-draft
draft_from-requires-clause-draft c = let at = goal.at.draft_from-requires-clause-draft c in draft_asked (read at.After-deref-3 (placed at.In-Some))

pub planning_terms-terms-requires-clause-place : goal.planning_terms-terms-requires-clause-place
planning_terms-terms-requires-clause-place c = place_within (placed (goal.at.planning_terms-terms-requires-clause-place c).In-Some)

pub planning_terms-terms-requires-clause-firms : goal.planning_terms-terms-requires-clause-firms
planning_terms-terms-requires-clause-firms c = c.self.invariant.view.firms_by_pair

pub pair_rows-rows-requires-clause-usages : goal.pair_rows-rows-requires-clause-usages
pair_rows-rows-requires-clause-usages c = c.self.invariant.view.usages_by_pair

pub planning_terms-terms-requires-clause-sooner : goal.planning_terms-terms-requires-clause-sooner
planning_terms-terms-requires-clause-sooner c = c.self.invariant.view.sooner_by_pair

pub draft_from-requires-clause-orders : goal.draft_from-requires-clause-orders
draft_from-requires-clause-orders c = let at = goal.at.draft_from-requires-clause-orders c in orders_fit (read at.After-deref-3 (placed at.In-Some))

pub draft_from-requires-clause-gross : goal.draft_from-requires-clause-gross
draft_from-requires-clause-gross c =
    let at = goal.at.draft_from-requires-clause-gross c in
    c.requires.gross ∙ sym (demand_periods (read at.After-deref-3 (placed at.In-Some)) ∙ same_horizon at.In-Some)

pub draft_from-requires-clause-into : goal.draft_from-requires-clause-into
draft_from-requires-clause-into c =
    let at = goal.at.draft_from-requires-clause-into c in
    c.requires.into ∙ sym (demand_periods (read at.After-deref-3 (placed at.In-Some)) ∙ same_horizon at.In-Some)

pub returns-clause-plan : goal.returns-clause-plan
returns-clause-plan c =
    let at = goal.at.returns-clause-plan c in
    c.draft_from.ensures.plan ∙ draft_made (read at.After-deref-3 (placed at.In-Some)) ∙ ap (λ (a : AgentState). drafted a c.args.x) c.self.view_is
