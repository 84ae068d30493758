use Rattle.std.proofs.Common.{List, ap, ◌∙◌}
use Rattle.mrp_master_data.specs.declared.rows.UsageRow.{UsageRow}
use Rattle.mrp_net.specs.Usages.{most_per}
use Rattle.mrp_loops.proofs.needs.most_of.Goals as goal

pub most_per-requires : goal.most_per-requires
most_per-requires c = record { bases = λ i d h. (c.usages.ensures.rows i d h).some }

pub returns : goal.returns
returns c = c.most_per.ensures ∙ ap (λ (us : List UsageRow). most_per c.args.edge.now.per us) c.usages.ensures.value
