use Rattle.mrp_reach.proofs.WholePeriods as wholes
use Rattle.mrp_reach.proofs.laws.whole_periods_are_one.Goals as goal

pub returns-clause-some : goal.returns-clause-some
returns-clause-some c = wholes.wholes_exist

pub returns-clause-one : goal.returns-clause-one
returns-clause-one c = wholes.wholes_are_one

pub returns-clause-within : goal.returns-clause-within
returns-clause-within c = wholes.wholes_are_within
