use Rattle.std.proofs.Common.{List, sym, ◌∙◌, subst}
use Rattle.std.specs.List.{All}
use Rattle.mrp_master_data.specs.declared.rows.FirmRow.{FirmRow}
use Rattle.mrp_master_data.specs.Table.{IsFirmRow}
use Rattle.mrp_net.proofs.Firms.{firms_read}
use Rattle.mrp_net.proofs.network.Network.firm_orders.Goals as goal

pub get-requires-clause-rises : goal.get-requires-clause-rises
get-requires-clause-rises c = let are = firms_read _ c.args.self.now c.self.inside.amounts.firms.rows.items c.self.inside.amounts.firms.starts.items
    c.args.x.0 c.self.view_is c.self.invariant.amounts.firms c.self.invariant.table c.requires in are.rises

pub get-requires-clause-within : goal.get-requires-clause-within
get-requires-clause-within c = let are = firms_read _ c.args.self.now c.self.inside.amounts.firms.rows.items c.self.inside.amounts.firms.starts.items
    c.args.x.0 c.self.view_is c.self.invariant.amounts.firms c.self.invariant.table c.requires in are.within

pub returns-clause-value : goal.returns-clause-value
returns-clause-value c = let are = firms_read _ c.args.self.now c.self.inside.amounts.firms.rows.items c.self.inside.amounts.firms.starts.items c.args.x.0
    c.self.view_is c.self.invariant.amounts.firms c.self.invariant.table c.requires in c.get.ensures ∙ are.value

pub returns-clause-rows : goal.returns-clause-rows
returns-clause-rows c =
    let are = firms_read _ c.args.self.now c.self.inside.amounts.firms.rows.items c.self.inside.amounts.firms.starts.items c.args.x.0 c.self.view_is
    c.self.invariant.amounts.firms c.self.invariant.table c.requires in
    subst (λ (z : List FirmRow). All (IsFirmRow c.args.self.now) z) (sym (c.get.ensures ∙ are.value)) are.each
