use Rattle.std.proofs.Common.{◌≤◌, ◌==◌, List, sym, ap, ◌∙◌, subst}
use Rattle.std.specs.List.{count_by, position_or_len}
use Rattle.mrp_plant_view.specs.declared.view.OutgoingLane.{OutgoingLane}
use Rattle.mrp_agent.specs.State.{AgentState}
use Rattle.mrp_agent.proofs.agent.Agent.out_place.Goals as goal

pub outgoing_near-requires : goal.outgoing_near-requires
outgoing_near-requires c =
    subst (λ (z : List OutgoingLane). count_by (λ l. l.number.0 == c.args.lane.0) z ≤ 1) (sym c.outgoing.ensures)
    (c.self.invariant.view.outgoing_once c.args.lane.0)

pub returns : goal.returns
returns c = c.outgoing_near.ensures ∙ ap (λ (z : List OutgoingLane). position_or_len (λ (l : OutgoingLane). l.number.0 == c.args.lane.0) z)
    (c.outgoing.ensures ∙ ap (λ (a : AgentState). a.view.outgoing) c.self.view_is)
