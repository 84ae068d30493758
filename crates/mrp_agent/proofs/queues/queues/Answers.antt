use Rattle.std.proofs.Common.{List, IfOk, ◌∙◌, subst}
use Rattle.mrp_grouping.specs.Starts.{IsGrouped}
use Rattle.mrp_agent.specs.declared.queues.QueuePlace.{QueuePlace}
use Rattle.mrp_agent.proofs.Queueing.{pairs_known}
use Rattle.mrp_agent.proofs.queues.queues.Goals as goal

pub group-requires-clause-keys : goal.group-requires-clause-keys
group-requires-clause-keys c = pairs_known c.args.items.now c.args.lanes.now c.requires.items (c.deref.ensures.value ∙ c.in_ok-places.ensures)

pub returns : goal.returns
returns c =
    subst (λ (z : List QueuePlace). IfOk c.group.result (λ g. IsGrouped (λ (q : QueuePlace). q.pair) c.args.pairs z g.rows.items g.starts.items))
    (c.deref.ensures.value ∙ c.in_ok-places.ensures) c.group.ensures
