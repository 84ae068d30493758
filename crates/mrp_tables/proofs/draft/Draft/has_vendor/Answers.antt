use Rattle.std.proofs.Common.{◌∙◌}
use Rattle.mrp_tables.proofs.Keys.{any_vendor}
use Rattle.mrp_tables.proofs.draft.Draft.has_vendor.Goals as goal

pub returns-in-Some : goal.returns-in-Some
returns-in-Some c = record {
  exact = rw c.in-Some.is (c.contains.ensures ∙ any_vendor c.in-Some.pair _ _ c.requires.draft.holds.vendor_keys);
}
