use Rattle.std.proofs.Common.{◌∙◌, pos, ap}
use Rattle.mrp_cal.proofs.Days.{date_text-day_text}
use Rattle.mrp_cal.proofs.calendar.Calendar.text.Goals as goal

pub returns-clause-value : goal.returns-clause-value
returns-clause-value c =
    c.text_of_date.ensures.bytes ∙ date_text-day_text c.date_of_day.result _ (c.date_of_day.ensures ∙ ap pos c.day.ensures.value)

pub returns-clause-spells : goal.returns-clause-spells
returns-clause-spells c = (c.date_of_day.result, c.text_of_date.ensures.spells, c.date_of_day.ensures ∙ ap pos c.day.ensures.value)
