use Rattle.std.proofs.Common.{rules}
use Rattle.mrp_validation.specs.Grammar.{usage_fits}
use Rattle.mrp_tables.proofs.draft.Draft.usage_fits.Goals as goal

pub returns-then-has_usage-clause-exact : goal.returns-then-has_usage-clause-exact
unfolding usage_fits
returns-then-has_usage-clause-exact c = search rules

pub returns-then-not-has_plant_of-clause-exact : goal.returns-then-not-has_plant_of-clause-exact
unfolding usage_fits
returns-then-not-has_plant_of-clause-exact c = search rules

pub returns-in_err-parent-clause-exact : goal.returns-in_err-parent-clause-exact
unfolding usage_fits
returns-in_err-parent-clause-exact c = search rules

pub returns-in_err-component-clause-exact : goal.returns-in_err-component-clause-exact
unfolding usage_fits
returns-in_err-component-clause-exact c = search rules

pub returns-then-not-has_bill-clause-exact : goal.returns-then-not-has_bill-clause-exact
unfolding usage_fits
returns-then-not-has_bill-clause-exact c = search rules

pub returns-then-usages-limits-clause-exact : goal.returns-then-usages-limits-clause-exact
unfolding usage_fits
returns-then-usages-limits-clause-exact c = search rules

pub returns-clause-exact : goal.returns-clause-exact
unfolding usage_fits
returns-clause-exact c = search rules
