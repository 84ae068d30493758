use Rattle.std.proofs.Common.{◌∙◌}
use Rattle.mrp_tables.proofs.Keys.{any_policy}
use Rattle.mrp_tables.proofs.draft.Draft.has_policy.Goals as goal

pub returns-in-Some : goal.returns-in-Some
returns-in-Some c = record {
  exact = rw c.in-Some.is (c.contains.ensures ∙ any_policy c.in-Some.pair _ _ c.requires.draft.holds.policy_keys);
}
