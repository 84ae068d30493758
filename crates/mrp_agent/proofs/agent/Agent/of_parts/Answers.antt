use Rattle.std.proofs.Common.{◌≡◌, length, sym, subst}
use Rattle.mrp_agent.specs.Kept.{AreIndexes, Indexes, IsKept}
use Rattle.mrp_agent.specs.Shows.{ShowsHistory}
use Rattle.mrp_agent.specs.State.{AgentState}
use Rattle.mrp_agent.proofs.Opening.{agent_of, agent_opened, none_planned, nothing, opened, opening_kept, opening_shows}
use Rattle.mrp_agent.proofs.agent.Agent.of_parts.Goals as goal
use Rattle.mrp_agent.proofs.agent.Agent.of_parts.Goals.{In_ok-amounts}

opens : (c : In_ok-amounts)
    → agent_of c.args.view c.in_ok-lanes.lanes.books.items c.in_ok-amounts.amounts.scheduled_receipts.items c.in_ok-amounts.amounts.outside_demand.items
    c.in_ok-amounts.amounts.plans.items
    c.in_ok-structure.structure.progress c.in_ok-lanes.lanes.outs.items
    ≡ opened c.args.view c.in_ok-structure.structure.progress c.in_ok-lanes.lanes.outs.items
opens c =
    agent_opened c.args.view c.in_ok-lanes.lanes.books.items c.in_ok-amounts.amounts.scheduled_receipts.items c.in_ok-amounts.amounts.outside_demand.items
    c.in_ok-amounts.amounts.plans.items
    c.in_ok-structure.structure.progress c.in_ok-lanes.lanes.outs.items
    (record {
      books_are = c.in_ok-lanes.ensures.books;
      receipts_are = c.in_ok-amounts.ensures.scheduled_receipts;
      demand_is = c.in_ok-amounts.ensures.outside_demand;
      plans_are = c.in_ok-amounts.ensures.plans;
    })

pub invariant_of-result : goal.invariant_of-result
invariant_of-result c =
    let here = (goal.at.invariant_of-result c).In_ok-amounts in
    let structure = c.in_ok-structure.structure in
    let I : Indexes = record {
      items = structure.items;
      edges = structure.edges.rows.items;
      starts = structure.edges.starts.items;
      components = structure.components;
      queues = c.in_ok-lanes.lanes.queues.rows.items;
      queue_starts = c.in_ok-lanes.lanes.queues.starts.items;
      room = length c.in_ok-amounts.amounts.room.gross;
    } in
    let indexes : AreIndexes c.args.view I = record {
      items = c.in_ok-structure.ensures.items;
      edges = c.in_ok-structure.ensures.edges;
      components = c.in_ok-structure.ensures.components;
      queues = c.in_ok-lanes.ensures.queues;
      room = c.in_ok-amounts.ensures.room;
    } in
    subst (λ (a : AgentState). IsKept a I) (sym (opens here))
    (opening_kept c.args.view structure.progress c.in_ok-lanes.lanes.outs.items c.requires.seen c.requires.openings c.in_ok-structure.ensures.first
    c.in_ok-lanes.ensures.outs I indexes)

pub returns-clause-opens : goal.returns-clause-opens
returns-clause-opens c =
    let here = (goal.at.returns-clause-opens c).In_ok-amounts in
    subst (λ (a : AgentState). ShowsHistory a nothing nothing none_planned) (sym (opens here))
    (opening_shows c.args.view c.in_ok-structure.structure.progress c.in_ok-lanes.lanes.outs.items c.requires.seen c.requires.openings
    c.in_ok-structure.ensures.first
    c.in_ok-lanes.ensures.outs c.in_ok-amounts.ensures.receipts c.in_ok-amounts.ensures.demands)
