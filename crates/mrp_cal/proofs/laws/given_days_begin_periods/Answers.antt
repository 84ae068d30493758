use Rattle.mrp_cal.proofs.Since.{day_since-follows, day_since-given}
use Rattle.std.proofs.Common.{arith}
use Rattle.mrp_cal.proofs.laws.given_days_begin_periods.Goals as goal

pub returns-clause-given : goal.returns-clause-given
returns-clause-given c = λ k h i d lt. day_since-given k.days k.periods 0 k.first k.begun i d lt h.begun

pub returns-clause-others : goal.returns-clause-others
returns-clause-others c = λ k t h others. day_since-follows k.days k.periods 0 k.first k.begun t h.begun (omega arith) others
