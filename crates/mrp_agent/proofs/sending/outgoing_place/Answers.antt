use Rattle.std.proofs.Common.{◌∙◌, ap, ◌==◌, ℕ, Option, unwrap_or, length}
use Rattle.mrp_plant_view.specs.declared.view.OutgoingLane.{OutgoingLane}
use Rattle.mrp_agent.proofs.Looking.{place_or_len}
use Rattle.mrp_agent.proofs.sending.outgoing_place.Goals as goal

pub returns : goal.returns
returns c =
    c.unwrap_or.ensures
    ∙ ap (λ (o : Option ℕ). unwrap_or o (length c.args.lanes.now)) c.find_outgoing.ensures
    ∙ place_or_len (λ (l : OutgoingLane). l.number.0 == c.args.lane.0) c.args.lanes.now
