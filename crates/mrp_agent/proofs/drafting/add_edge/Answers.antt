use Rattle.std.proofs.Common.{ℕ, ◌≤◌, ◌==◌, sym, subst}
use Rattle.std.specs.List.{All}
use Rattle.std.proofs.lemmas.List.Elements.{All-filter}
use Rattle.mrp_qty.specs.declared.limits.TheConstants.{MOST_PER}
use Rattle.mrp_master_data.specs.declared.rows.UsageRow.{UsageRow}
use Rattle.mrp_agent.specs.Asking.{parent_number}
use Rattle.mrp_agent.proofs.drafting.add_edge.Goals as goal

-- the base and the pieces of a usage row are in range
abbrev Fits : UsageRow → Type 0
Fits u = (1 ≤ u.usage.base) × (u.usage.per ≤ MOST_PER)

pub add_asked-requires-clause-bases : goal.add_asked-requires-clause-bases
add_asked-requires-clause-bases c =
    let rows = c.args.rows.now in
    let parent : ℕ = parent_number rows.pairs.now c.args.edge.now in
    subst (All Fits) (sym c.parent_usages-usages.ensures)
    (All-filter (λ (u : UsageRow). u.parent.0 == parent) Fits rows.usages.now c.requires.uses.rows)
