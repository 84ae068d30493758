use Rattle.std.proofs.Common.{map, ap, ◌∙◌}
use Rattle.mrp_readiness.specs.declared.join.Join.{Join}
use Rattle.mrp_readiness.proofs.Grouping.{ArePartsOf-grouped, parts_grouped}
use Rattle.mrp_readiness.proofs.components.Components.new.Goals as goal

pub invariant_of-result : goal.invariant_of-result
invariant_of-result c =
    let g = c.in_ok-grouped.grouped in
    ArePartsOf-grouped c.args.joins.now g.rows.items g.starts.items c.in_ok-rows.rows.items c.args.pairs c.in_ok-grouped.ensures (c.in_ok-rows.ensures
    ∙ ap (map (λ (j : Join). j.component)) c.deref.ensures.value)

pub returns : goal.returns
returns c =
    let g = c.in_ok-grouped.grouped in
    parts_grouped c.args.joins.now g.rows.items g.starts.items c.in_ok-rows.rows.items c.args.pairs c.in_ok-grouped.ensures (c.in_ok-rows.ensures
    ∙ ap (map (λ (j : Join). j.component)) c.deref.ensures.value)
