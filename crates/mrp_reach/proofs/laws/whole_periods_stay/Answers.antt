use Rattle.mrp_reach.proofs.LongerDates as longer
use Rattle.mrp_reach.proofs.NetworkReach.{whole_stays}
use Rattle.mrp_reach.proofs.laws.whole_periods_stay.Goals as goal

pub returns-clause-plan : goal.returns-clause-plan
returns-clause-plan c = whole_stays

pub returns-clause-dates : goal.returns-clause-dates
returns-clause-dates c = longer.dates_stay
