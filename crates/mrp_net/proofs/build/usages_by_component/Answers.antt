use Rattle.std.proofs.Common.{length, ap, ◌∙◌}
use Rattle.mrp_net.specs.Built.{usages_by_parent}
use Rattle.mrp_net.proofs.UsageRows.{by_parent_in, usage_keys}
use Rattle.mrp_net.proofs.build.usages_by_component.Goals as goal

pub group-requires-clause-keys : goal.group-requires-clause-keys
group-requires-clause-keys c =
    let N = c.args.tables.now in
    usage_keys (λ u. u.component.0) _ (usages_by_parent N) _ (length N.pairs) (c.as_slice.ensures.value ∙ c.in_ok-by_parent.ensures)
    (ap length (c.pairs-pairs.ensures.value ∙ ap (λ z. z.pairs) c.rows.ensures.value))
    (λ k d h. (by_parent_in N c.rows.ensures.table k d h).component)
