use Rattle.mrp_cal.proofs.BegunFacts.{first_day-by, first_day-rises}
use Rattle.mrp_cal.proofs.laws.dates_rise.Goals as goal

pub returns-clause-rise : goal.returns-clause-rise
returns-clause-rise c = first_day-rises

pub returns-clause-end : goal.returns-clause-end
returns-clause-end c = first_day-by
