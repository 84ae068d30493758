use Rattle.std.proofs.Common.{refl}
use Rattle.mrp_cal.specs.Calendar.{last_date}
use Rattle.mrp_cal.proofs.Calendars.{end_date, epoch_day-end_date}
use Rattle.mrp_cal.proofs.Digits.{day_zero, epoch_day-day_zero, text_spells}
use Rattle.mrp_cal.proofs.laws.limits_are_numbers.Goals as goal

pub returns-clause-first : goal.returns-clause-first
unfolding day_zero
returns-clause-first c = (day_zero, text_spells day_zero 1970 1 1 refl refl refl, epoch_day-day_zero)

pub returns-clause-last : goal.returns-clause-last
unfolding last_date end_date
returns-clause-last c = (end_date, text_spells end_date 2199 12 31 refl refl refl, epoch_day-end_date)
