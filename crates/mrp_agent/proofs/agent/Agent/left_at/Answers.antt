use Rattle.std.proofs.Common.{◌≡◌, ◌<◌, ◌∙◌, List, length, get_or, ap, arith, subst, sym}
use Rattle.mrp_plant_view.specs.declared.view.OutgoingLane.{OutgoingLane}
use Rattle.mrp_agent.specs.State.{AgentState}
use Rattle.mrp_agent.specs.contracts.agent.Agent.{the_view}
use Rattle.mrp_agent.proofs.agent.Agent.left_at.Goals as goal

pub index-requires : goal.index-requires
index-requires c =
    let within : c.args.k < length (the_view c.self.inside).view.outgoing =
    subst (λ (a : AgentState). c.args.k < length a.view.outgoing) (sym c.self.view_is) c.requires in
    omega (arith, within, c.self.invariant.rooms.cursors.count, c.self.inside.lanes.outs.ok.0)

pub index-requires-2 : goal.index-requires-2
index-requires-2 c =
    let within : c.args.k < length (the_view c.self.inside).view.outgoing =
    subst (λ (a : AgentState). c.args.k < length a.view.outgoing) (sym c.self.view_is) c.requires in
    omega (arith, within, c.self.invariant.rooms.cursors.count, c.self.inside.lanes.outs.ok.0)

pub bounds-outgoing-k : goal.bounds-outgoing-k
bounds-outgoing-k c =
    subst (λ (z : List OutgoingLane). c.args.k < length z) (sym (c.outgoing.ensures ∙ ap (λ (a : AgentState). a.view.outgoing) c.self.view_is)) c.requires

pub left_of-requires-clause-lane : goal.left_of-requires-clause-lane
left_of-requires-clause-lane c =
    let seen = c.outgoing.ensures ∙ ap (λ (a : AgentState). a.view.outgoing) c.self.view_is in
    let lane : OutgoingLane = c.index-outgoing-k.result in
    (c.args.k, c.requires, subst (λ (z : List OutgoingLane). get_or z c.args.k lane ≡ lane) seen (sym c.index-outgoing-k.is))
