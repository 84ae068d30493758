use Rattle.std.proofs.Common.{◌∙◌}
use Rattle.mrp_tables.proofs.Keys.{any_bill}
use Rattle.mrp_tables.proofs.draft.Draft.has_bill.Goals as goal

pub returns-in-Some-Some : goal.returns-in-Some-Some
returns-in-Some-Some c = record {
  exact = rw (c.in-Some-Some.is-0, c.in-Some-Some.is-1) (c.contains.ensures
      ∙ any_bill c.in-Some-Some.parent c.in-Some-Some.component _ _ c.requires.draft.holds.bill_keys);
}
