use Rattle.std.proofs.Common.{length, sym, ap, ◌∙◌, arith}
use Rattle.mrp_netting.specs.PlanRows.{PlanRows}
use Rattle.mrp_agent.specs.Asking.{uses_by}
use Rattle.mrp_agent.specs.Fields.{indexes_of}
use Rattle.mrp_agent.specs.contracts.agent.Agent.{the_view}
use Rattle.mrp_agent.proofs.Rooms.{kept_written, old_periods, plans_written, same_periods}
use Rattle.mrp_agent.proofs.DraftReads.{HasRead, demand_periods, draft_asked, draft_made, orders_fit, placed_at, rows_read}
use Rattle.mrp_agent.proofs.Placing.{can_before, place_within}
use Rattle.mrp_agent.proofs.agent.Agent.write_plan.Goals as goal
use Rattle.mrp_agent.proofs.agent.Agent.write_plan.Goals.{After-deref-3}

pub pair_rows-rows-requires-clause-place : goal.pair_rows-rows-requires-clause-place
pair_rows-rows-requires-clause-place c = place_within (placed_at c.self.view_is c.self.invariant c.requires.can c.requires.place)

read : (c : After-deref-3) → HasRead (the_view c.self.inside) (indexes_of c.self.inside) c.args.x c.args.place c.planning_terms-terms.result
    c.pair_rows-rows.result.incoming.now c.pair_rows-rows.result.demand.now c.pair_rows-rows.result.edges.now (uses_by c.pair_rows-rows.result)
    c.deref-3.result.now
read c =
    rows_read (placed_at c.self.view_is c.self.invariant c.requires.can c.requires.place) (can_before c.self.view_is c.requires.can)
    c.deref.ensures.value c.deref-2.ensures.value c.deref-3.ensures.value
    c.planning_terms-terms.ensures.terms c.planning_terms-terms.ensures.orders c.pair_rows-rows.ensures.incoming c.pair_rows-rows.ensures.demand
    c.pair_rows-rows.ensures.edges c.pair_rows-rows.ensures.uses

pub draft_rows-requires-clause-draft : goal.draft_rows-requires-clause-draft
draft_rows-requires-clause-draft c = draft_asked (read (goal.at.draft_rows-requires-clause-draft c).After-deref-3)

pub planning_terms-terms-requires-clause-place : goal.planning_terms-terms-requires-clause-place
planning_terms-terms-requires-clause-place c = place_within (placed_at c.self.view_is c.self.invariant c.requires.can c.requires.place)

pub planning_terms-terms-requires-clause-firms : goal.planning_terms-terms-requires-clause-firms
planning_terms-terms-requires-clause-firms c = c.self.invariant.view.firms_by_pair

pub pair_rows-rows-requires-clause-usages : goal.pair_rows-rows-requires-clause-usages
pair_rows-rows-requires-clause-usages c = c.self.invariant.view.usages_by_pair

pub planning_terms-terms-requires-clause-sooner : goal.planning_terms-terms-requires-clause-sooner
planning_terms-terms-requires-clause-sooner c = c.self.invariant.view.sooner_by_pair

pub draft_rows-requires-clause-orders : goal.draft_rows-requires-clause-orders
draft_rows-requires-clause-orders c = orders_fit (read (goal.at.draft_rows-requires-clause-orders c).After-deref-3)

pub draft_rows-requires-clause-periods : goal.draft_rows-requires-clause-periods
draft_rows-requires-clause-periods c = c.self.invariant.indexes.room ∙ sym (demand_periods (read (goal.at.draft_rows-requires-clause-periods c).After-deref-3))

pub index_mut-requires : goal.index_mut-requires
index_mut-requires c =
    omega (arith, place_within (read (goal.at.index_mut-requires c).After-deref-3).placed, c.self.invariant.rooms.plans.count, c.self.inside.amounts.plans.ok.0)

pub exchange-requires : goal.exchange-requires
exchange-requires c =
    let rows = read (goal.at.exchange-requires c).After-deref-3 in same_periods rows.placed c.index_mut.ensures.value (c.draft_rows.ensures ∙ draft_made rows)

pub invariant_of-self : goal.invariant_of-self
invariant_of-self c =
    let rows = read (goal.at.invariant_of-self c).After-deref-3 in
    kept_written rows.placed (c.exchange.ensures.given ∙ c.draft_rows.ensures ∙ draft_made rows)
    (ap (λ (z : PlanRows). length z.gross) c.exchange.ensures.taken ∙ old_periods rows.placed c.index_mut.ensures.value)

pub returns : goal.returns
returns c = plans_written c.args.x c.args.place c.self.view_is (c.exchange.ensures.given ∙ c.draft_rows.ensures
    ∙ draft_made (read (goal.at.returns c).After-deref-3))
