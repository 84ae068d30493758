use Rattle.std.proofs.Common.{List, sym, ◌∙◌, subst}
use Rattle.std.specs.List.{All}
use Rattle.std.specs.List.Sorted.{IsNonDecreasingBy}
use Rattle.mrp_master_data.specs.declared.rows.UsageRow.{UsageRow}
use Rattle.mrp_master_data.specs.Table.{IsUsageRow}
use Rattle.mrp_net.proofs.UsageRows.{usages_read}
use Rattle.mrp_net.proofs.network.Network.usages_to.Goals as goal

pub get-requires-clause-rises : goal.get-requires-clause-rises
get-requires-clause-rises c = let are = usages_read _ c.args.self.now c.self.inside.amounts.usages.rows.items c.self.inside.amounts.usages.starts.items
    c.args.x.0 c.self.view_is c.self.invariant.amounts.usages c.self.invariant.table c.requires in are.rises

pub get-requires-clause-within : goal.get-requires-clause-within
get-requires-clause-within c = let are = usages_read _ c.args.self.now c.self.inside.amounts.usages.rows.items c.self.inside.amounts.usages.starts.items
    c.args.x.0 c.self.view_is c.self.invariant.amounts.usages c.self.invariant.table c.requires in are.within

pub returns-clause-value : goal.returns-clause-value
returns-clause-value c = let are = usages_read _ c.args.self.now c.self.inside.amounts.usages.rows.items c.self.inside.amounts.usages.starts.items c.args.x.0
    c.self.view_is c.self.invariant.amounts.usages c.self.invariant.table c.requires in c.get.ensures ∙ are.value

pub returns-clause-rows : goal.returns-clause-rows
returns-clause-rows c =
    let are = usages_read _ c.args.self.now c.self.inside.amounts.usages.rows.items c.self.inside.amounts.usages.starts.items c.args.x.0 c.self.view_is
    c.self.invariant.amounts.usages c.self.invariant.table c.requires in
    subst (λ (z : List UsageRow). All (IsUsageRow c.args.self.now) z) (sym (c.get.ensures ∙ are.value)) are.each

pub returns-clause-rises : goal.returns-clause-rises
returns-clause-rises c =
    let are = usages_read _ c.args.self.now c.self.inside.amounts.usages.rows.items c.self.inside.amounts.usages.starts.items c.args.x.0 c.self.view_is
    c.self.invariant.amounts.usages c.self.invariant.table c.requires in
    subst (λ (z : List UsageRow). IsNonDecreasingBy (λ u. u.parent.0) z) (sym (c.get.ensures ∙ are.value)) are.in_order
