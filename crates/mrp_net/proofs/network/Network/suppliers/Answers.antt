use Rattle.std.proofs.Common.{List, sym, ◌∙◌, subst}
use Rattle.std.specs.List.{All}
use Rattle.mrp_net.specs.declared.edge.Edge.{Edge}
use Rattle.mrp_net.specs.Suppliers.{IsEdge}
use Rattle.mrp_net.proofs.Joining.{suppliers_of}
use Rattle.mrp_net.proofs.network.Network.suppliers.Goals as goal

pub get-requires-clause-rises : goal.get-requires-clause-rises
get-requires-clause-rises c = let are = suppliers_of _ c.args.self.now c.self.inside.edges.suppliers.rows.items c.self.inside.edges.suppliers.starts.items
    c.args.x.0 c.self.view_is c.self.invariant.edges.suppliers c.self.invariant.table c.requires in are.rises

pub get-requires-clause-within : goal.get-requires-clause-within
get-requires-clause-within c = let are = suppliers_of _ c.args.self.now c.self.inside.edges.suppliers.rows.items c.self.inside.edges.suppliers.starts.items
    c.args.x.0 c.self.view_is c.self.invariant.edges.suppliers c.self.invariant.table c.requires in are.within

pub returns-clause-value : goal.returns-clause-value
returns-clause-value c = let are = suppliers_of _ c.args.self.now c.self.inside.edges.suppliers.rows.items c.self.inside.edges.suppliers.starts.items c.args.x.0
    c.self.view_is c.self.invariant.edges.suppliers c.self.invariant.table c.requires in c.get.ensures ∙ are.value

pub returns-clause-edges : goal.returns-clause-edges
returns-clause-edges c =
    let are = suppliers_of _ c.args.self.now c.self.inside.edges.suppliers.rows.items c.self.inside.edges.suppliers.starts.items c.args.x.0 c.self.view_is
    c.self.invariant.edges.suppliers c.self.invariant.table c.requires in
    subst (λ (z : List Edge). All (IsEdge c.args.self.now) z) (sym (c.get.ensures ∙ are.value)) are.edges
