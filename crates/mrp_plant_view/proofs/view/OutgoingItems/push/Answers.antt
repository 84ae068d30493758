use Rattle.std.proofs.Common.{◌≡◌, ◌+◌, List, ◌∷◌, [], ◌++◌, length, rules, ap, ◌∙◌}
use Rattle.mrp_net.specs.declared.lane.Shipment.{Shipment}
use Rattle.mrp_plant_view.specs.declared.view.OutgoingRow.{OutgoingRow}
use Rattle.mrp_plant_view.specs.Loads.{OutgoingLoad, load, loads_of}
use Rattle.mrp_plant_view.proofs.Loading.{loads_push}
use Rattle.mrp_plant_view.proofs.view.OutgoingItems.push.Goals as goal

pub returns : goal.returns
returns c =
    let rows : List OutgoingRow = c.self.inside.rows.items in
    let ships : List Shipment = c.self.inside.shipments.items in
    let more : List Shipment = c.args.shipments.now in
    let row : OutgoingRow = record { item = c.args.item; begin = c.len-begin.result; end = c.len-end.result } in
    let begin : c.len-begin.result ≡ length ships = search rules in
    let end : c.len-end.result ≡ length ships + length more = search rules in
    let pushed : c.push.new.self.items ≡ rows ++ row ∷ [] = c.in_ok-push.ensures.items in
    let joined : c.extend_from_slice.new.self.items ≡ ships ++ more = c.in_ok-extend_from_slice.ensures.items in
    ap (λ (z : List OutgoingRow). loads_of z c.extend_from_slice.new.self.items) pushed
    ∙ ap (λ (z : List Shipment). loads_of (rows ++ row ∷ []) z) joined
    ∙ loads_push rows ships more row c.self.invariant begin end
    ∙ ap (λ (z : List OutgoingLoad). z ++ load c.args.item more ∷ []) c.self.view_is
