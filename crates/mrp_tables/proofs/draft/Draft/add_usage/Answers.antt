use Rattle.std.proofs.Common.{◌∙◌, ap, sym, not, true≢false, arith}
use Rattle.std.proofs.lemmas.Grind.{common_steps}
use Rattle.mrp_tables.proofs.Keys.{any_usage}
use Rattle.mrp_tables.proofs.draft.Draft.add_usage.Goals as goal

pub unreachable-requires : goal.unreachable-requires
unreachable-requires c =
    let u = c.in_ok-usage.usage in
    let fresh = any_usage u.parent u.component u.period _ _ c.requires.draft.holds.usage_keys ∙ c.in_ok-usage.ensures.fresh in
    absurd (true≢false (ap not (sym fresh) ∙ sym c.in_ok-insert.ensures.added ∙ c.if-not-branch.true))

pub returns-clause-adds : goal.returns-clause-adds
returns-clause-adds c = grind (arith, common_steps)
