use Rattle.std.proofs.Common.{rules}
use Rattle.mrp_validation.specs.Grammar.{pair_fits}
use Rattle.mrp_tables.proofs.draft.Draft.pair_fits.Goals as goal

pub returns-then-has_pair-clause-exact : goal.returns-then-has_pair-clause-exact
unfolding pair_fits
returns-then-has_pair-clause-exact c = search rules

pub returns-then-not-knows_all-clause-exact : goal.returns-then-not-knows_all-clause-exact
unfolding pair_fits
returns-then-not-knows_all-clause-exact c = search rules

pub returns-then-names_plant-clause-exact : goal.returns-then-names_plant-clause-exact
unfolding pair_fits
returns-then-names_plant-clause-exact c = search rules

pub returns-then-pairs-limits-clause-exact : goal.returns-then-pairs-limits-clause-exact
unfolding pair_fits
returns-then-pairs-limits-clause-exact c = search rules

pub returns-clause-exact : goal.returns-clause-exact
unfolding pair_fits
returns-clause-exact c = search rules

pub returns-clause-fits : goal.returns-clause-fits
returns-clause-fits c = search rules
