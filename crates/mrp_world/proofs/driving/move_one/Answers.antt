use Rattle.mrp_protocol.specs.declared.event.Event.TheVariants.{Send, Receive}
use Rattle.mrp_world.specs.Moves.{AreSomewhere, LeadNowhere, LaneRests}
use Rattle.mrp_world.proofs.Drives as drive
use Rattle.mrp_world.proofs.driving.move_one.Goals as goal

pub returns-then-receive : goal.returns-then-receive
returns-then-receive g c = drive.on_by_one (Receive c.args.lane) c.if-receive.ensures

pub send-requires-clause-shown : goal.send-requires-clause-shown
send-requires-clause-shown g c = drive.still_has (λ p b. AreSomewhere g.P.Plant.shows c.args.network.now p b) c.if-receive.ensures c.requires.shown

pub returns : goal.returns
returns g c =
    let shows = g.P.Plant.shows in
    let N = c.args.network.now in
    drive.tried_then shows N _ _ (λ p b. LeadNowhere shows N p b (Receive c.args.lane)) (λ p b. LeadNowhere shows N p b (Send c.args.lane))
    (LaneRests shows N c.args.lane.0) (λ receives sends. record { sends_nothing = sends; receives_nothing = receives }) _ _ _ _ _ c.if-receive.ensures
    (drive.tried_one _ _ _ _ (Send c.args.lane) _ _ _ c.send.ensures)
