use Rattle.std.proofs.Common.{◌≡◌, ℕ, ◌+◌, ◌*◌, ◌<◌, List, length, arith, sym, ◌∙◌, subst}
use Rattle.std.specs.List.{All}
use Rattle.mrp_master_data.specs.declared.numbers.ItemNo.{ItemNo}
use Rattle.mrp_master_data.specs.Table.{Table}
use Rattle.mrp_net.specs.Lanes.{customer_of, supplier_of}
use Rattle.mrp_net.proofs.Routing.{items_of_lane, route_within}
use Rattle.mrp_net.proofs.network.Network.lane_items.Goals as goal

pub get-requires-clause-group : goal.get-requires-clause-group
get-requires-clause-group c =
    let M = c.args.self.now in
    let starts : List ℕ = c.self.inside.lanes.items.starts.items in
    let size : length starts ≡ length M.plants * length M.plants + 1 =
    subst (λ (z : Table). length starts ≡ length z.plants * length z.plants + 1) c.self.view_is c.self.invariant.lanes.items.size in
    let plants = c.lane.ensures.plants in
    omega (arith, size, c.route-route.ensures, route_within M (customer_of c.lane.result) (supplier_of c.lane.result) plants.customer plants.supplier)

pub get-requires-clause-rises : goal.get-requires-clause-rises
get-requires-clause-rises c = let are = items_of_lane _ c.args.self.now c.self.inside.lanes.items.rows.items c.self.inside.lanes.items.starts.items
    c.lane.result _ c.route-route.result c.self.view_is c.self.invariant.lanes.items c.self.invariant.table c.lane.ensures.plants c.lane.ensures.value
    c.route-route.ensures in are.rises

pub get-requires-clause-within : goal.get-requires-clause-within
get-requires-clause-within c = let are = items_of_lane _ c.args.self.now c.self.inside.lanes.items.rows.items c.self.inside.lanes.items.starts.items
    c.lane.result _ c.route-route.result c.self.view_is c.self.invariant.lanes.items c.self.invariant.table c.lane.ensures.plants c.lane.ensures.value
    c.route-route.ensures in are.within

pub returns-clause-value : goal.returns-clause-value
returns-clause-value c = let are = items_of_lane _ c.args.self.now c.self.inside.lanes.items.rows.items c.self.inside.lanes.items.starts.items c.lane.result _
    c.route-route.result c.self.view_is c.self.invariant.lanes.items c.self.invariant.table c.lane.ensures.plants c.lane.ensures.value c.route-route.ensures
    in c.get.ensures ∙ are.value

pub returns-clause-items : goal.returns-clause-items
returns-clause-items c =
    let are = items_of_lane _ c.args.self.now c.self.inside.lanes.items.rows.items c.self.inside.lanes.items.starts.items c.lane.result _ c.route-route.result
    c.self.view_is c.self.invariant.lanes.items c.self.invariant.table c.lane.ensures.plants c.lane.ensures.value c.route-route.ensures in
    subst (λ (z : List ItemNo). All (λ (item : ItemNo). item.0 < length c.args.self.now.items) z) (sym (c.get.ensures ∙ are.value)) are.items
