use Rattle.std.proofs.Common.{refl, subst}
use Rattle.mrp_agent.specs.Fields.{indexes_of}
use Rattle.mrp_agent.specs.State.{AgentState}
use Rattle.mrp_agent.specs.Marking.{IsMarked}
use Rattle.mrp_agent.specs.Shows.{joins_of}
use Rattle.mrp_agent.specs.contracts.agent.Agent.{the_view}
use Rattle.mrp_agent.proofs.Marked.{components_known, components_are, components_within, components_are_waiting, free_before, kept_marked, lanes_known}
use Rattle.mrp_agent.proofs.Marked.{outs_settled, queues_are, queues_begin, queues_rise}
use Rattle.mrp_agent.proofs.agent.Agent.mark_planned.Goals as goal
use Rattle.mrp_agent.proofs.agent.Agent.mark_planned.Goals.{After-queue_item}

pub of-requires : goal.of-requires
of-requires c = components_known (the_view c.self.inside) (indexes_of c.self.inside) c.self.invariant c.args.place (free_before c.self.view_is c.requires.free)

pub count_planned-requires-clause-known : goal.count_planned-requires-clause-known
count_planned-requires-clause-known c =
    components_within (the_view c.self.inside) (indexes_of c.self.inside) c.self.invariant c.args.place
    (free_before c.self.view_is c.requires.free) c.of.result.now c.of.ensures

pub count_planned-requires-clause-waits : goal.count_planned-requires-clause-waits
count_planned-requires-clause-waits c =
    components_are_waiting (the_view c.self.inside) (indexes_of c.self.inside) c.self.invariant c.args.place
    (free_before c.self.view_is c.requires.free) c.of.result.now c.of.ensures

pub get-requires-clause-group : goal.get-requires-clause-group
get-requires-clause-group c = queues_begin (the_view c.self.inside) (indexes_of c.self.inside) c.self.invariant c.args.place
    (free_before c.self.view_is c.requires.free)

pub get-requires-clause-rises : goal.get-requires-clause-rises
get-requires-clause-rises c = (queues_rise (the_view c.self.inside) (indexes_of c.self.inside) c.self.invariant c.args.place
    (free_before c.self.view_is c.requires.free)).0

pub get-requires-clause-within : goal.get-requires-clause-within
get-requires-clause-within c = (queues_rise (the_view c.self.inside) (indexes_of c.self.inside) c.self.invariant c.args.place
    (free_before c.self.view_is c.requires.free)).1

pub queue_item-requires : goal.queue_item-requires
queue_item-requires c =
    let A : AgentState = the_view c.self.inside in
    let free = free_before c.self.view_is c.requires.free in
    lanes_known A (indexes_of c.self.inside) c.self.invariant c.args.place free
    (queues_are A (indexes_of c.self.inside) c.self.invariant c.args.place free c.get.ensures)

marked : (c : After-queue_item) → IsMarked (the_view c.self.inside) c.args.place
    (record (the_view c.self.inside) { progress = c.count_planned.new.self; outs = c.queue_item.new.outs.items })
marked c =
    let A : AgentState = the_view c.self.inside in
    let free = free_before c.self.view_is c.requires.free in
    let components = components_are A (indexes_of c.self.inside) c.self.invariant c.args.place free c.of.result.now c.of.ensures in
    record {
      same = refl;
      settled = record {
        numbers = c.count_planned.ensures.numbers;
        planned = c.count_planned.ensures.planned;
        left = c.count_planned.ensures.left;
        size = c.count_planned.ensures.fewer.size;
        others = c.count_planned.ensures.others;
        counts = λ blocks. c.count_planned.ensures.counts (joins_of A.view) blocks components;
      };
      queued =
          outs_settled A (indexes_of c.self.inside) c.self.invariant c.args.place free
          (queues_are A (indexes_of c.self.inside) c.self.invariant c.args.place free c.get.ensures) c.queue_item.ensures;
    }

pub invariant_of-self : goal.invariant_of-self
invariant_of-self c =
    let now = marked (goal.at.invariant_of-self c).After-queue_item in
    kept_marked (the_view c.self.inside) (indexes_of c.self.inside) c.args.place _ c.count_planned.new.self c.queue_item.new.outs.items c.self.invariant
    now.settled
    now.queued

pub returns : goal.returns
returns c =
    let new : AgentState = record (the_view c.self.inside) { progress = c.count_planned.new.self; outs = c.queue_item.new.outs.items } in
    subst (λ (a : AgentState). IsMarked a c.args.place new) c.self.view_is (marked (goal.at.returns c).After-queue_item)
