use Rattle.std.proofs.Common.{arith}
use Rattle.mrp_cal.proofs.Calendars.{last_date-is}
use Rattle.mrp_cal.proofs.Days.{spells_day}
use Rattle.mrp_cal.proofs.laws.the_text_of_a_day_spells_it.Goals as goal

pub returns : goal.returns
returns c = λ day by. spells_day day (omega (arith, by, last_date-is))
