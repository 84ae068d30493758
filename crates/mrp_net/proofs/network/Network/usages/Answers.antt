use Rattle.std.proofs.Common.{ap, ◌∙◌, sym, subst, eqb, List}
use Rattle.std.specs.List.{All}
use Rattle.std.proofs.lemmas.List.Elements.{All-filter}
use Rattle.mrp_master_data.specs.declared.rows.UsageRow.{UsageRow}
use Rattle.mrp_master_data.specs.Table.{IsUsageRow}
use Rattle.mrp_net.specs.Usages.{usages_of}
use Rattle.mrp_net.proofs.network.Network.usages.Goals as goal

pub returns-clause-value : goal.returns-clause-value
returns-clause-value c = c.usages_of.ensures ∙ ap (λ (us : List UsageRow). usages_of us c.args.edge.now.demander.0) c.usages_to.ensures.value

pub returns-clause-rows : goal.returns-clause-rows
returns-clause-rows c =
    subst (λ (z : List UsageRow). All (IsUsageRow c.args.self.now) z) (sym c.usages_of.ensures)
    (All-filter (λ (u : UsageRow). eqb u.parent.0 c.args.edge.now.demander.0) (IsUsageRow c.args.self.now) c.usages_to.result.now c.usages_to.ensures.rows)
