use Rattle.std.proofs.Common.{◌≤◌, ◌==◌, List, sym, ap, ◌∙◌, subst}
use Rattle.std.specs.List.{count_by, position_or_len}
use Rattle.mrp_plant_view.specs.declared.view.IncomingLane.{IncomingLane}
use Rattle.mrp_agent.specs.State.{AgentState}
use Rattle.mrp_agent.proofs.agent.Agent.in_place.Goals as goal

pub incoming_near-requires : goal.incoming_near-requires
incoming_near-requires c =
    subst (λ (z : List IncomingLane). count_by (λ l. l.number.0 == c.args.lane.0) z ≤ 1) (sym c.incoming.ensures)
    (c.self.invariant.view.incoming_once c.args.lane.0)

pub returns : goal.returns
returns c = c.incoming_near.ensures ∙ ap (λ (z : List IncomingLane). position_or_len (λ (l : IncomingLane). l.number.0 == c.args.lane.0) z)
    (c.incoming.ensures ∙ ap (λ (a : AgentState). a.view.incoming) c.self.view_is)
