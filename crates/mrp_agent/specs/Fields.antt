-- The agent: what its fields say, the state that its callers see, and the indexes that it keeps with it.
use Rattle.std.specs.Prelude.{length}
use Rattle.mrp_agent.specs.declared.agent.Agent.TheInside.{Inside}
use Rattle.mrp_agent.specs.Kept.{Indexes}
use Rattle.mrp_agent.specs.State.{AgentState}

abbrev pub agent_state : Inside → AgentState
agent_state a = record {
  view = a.view;
  books = a.lanes.books.items;
  scheduled_receipts = a.amounts.scheduled_receipts.items;
  outside_demand = a.amounts.outside_demand.items;
  plans = a.amounts.plans.items;
  progress = a.structure.progress;
  outs = a.lanes.outs.items;
}

abbrev pub indexes_of : Inside → Indexes
indexes_of a = record {
  items = a.structure.items;
  edges = a.structure.edges.rows.items;
  starts = a.structure.edges.starts.items;
  components = a.structure.components;
  queues = a.lanes.queues.rows.items;
  queue_starts = a.lanes.queues.starts.items;
  room = length a.amounts.room.gross;
}
