use Rattle.std.proofs.Common.{◌==◌, Bool, sym, ap, ◌∙◌}
use Rattle.mrp_plant_view.specs.declared.view.OutgoingLane.{OutgoingLane}
use Rattle.mrp_plant_view.proofs.Placing.{is_below}
use Rattle.mrp_agent.proofs.Looking.{place_is_only}
use Rattle.mrp_agent.proofs.sending.is_outgoing_at.Goals as goal

pub returns-in-Some : goal.returns-in-Some
returns-in-Some c =
    let is_sought : OutgoingLane → Bool = λ l. l.number.0 == c.args.lane.0 in
    let found = c.in-Some.ensures.lookup in
    let lane : OutgoingLane = c.in-Some.known.now in
    λ stands. place_is_only is_sought c.args.lanes.now c.args.place lane c.requires (is_below _ _ found.0) (ap is_sought (sym found.1) ∙ stands)
