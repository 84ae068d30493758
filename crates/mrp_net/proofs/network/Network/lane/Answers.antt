use Rattle.std.proofs.Common.{◌≡◌, ◌<◌, List, length, sym, ap, ◌∙◌, subst}
use Rattle.std.specs.List.{All}
use Rattle.mrp_net.specs.declared.lane.Lane.{Lane}
use Rattle.mrp_net.specs.Lanes.{lanes}
use Rattle.mrp_net.specs.Routes.{IsLane}
use Rattle.mrp_net.proofs.Routing.{lanes_join}
use Rattle.mrp_net.proofs.network.Network.lane.Goals as goal

pub returns-clause-plants : goal.returns-clause-plants
returns-clause-plants c =
    let M = c.args.self.now in
    let is : c.self.inside.lanes.lanes.items ≡ lanes M = c.self.invariant.lanes.all ∙ ap lanes c.self.view_is in
    let joined : All (IsLane M) c.self.inside.lanes.lanes.items = subst (λ (z : List Lane). All (IsLane M) z) (sym is) (lanes_join M) in
    let within : c.args.l.0 < length c.self.inside.lanes.lanes.items = rw is c.requires in
    subst (IsLane M) (sym c.index.ensures) (joined c.args.l.0 c.index.result.now within)
