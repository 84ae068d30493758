use Rattle.std.proofs.Common.{◌∙◌}
use Rattle.mrp_tables.proofs.Keys.{any_usage}
use Rattle.mrp_tables.proofs.draft.Draft.has_usage.Goals as goal

pub returns-in-Some-Some : goal.returns-in-Some-Some
returns-in-Some-Some c = record {
  exact = rw (c.in-Some-Some.is-0, c.in-Some-Some.is-1) (c.contains.ensures
      ∙ any_usage c.in-Some-Some.parent c.in-Some-Some.component c.args.period _ _ c.requires.draft.holds.usage_keys);
}
