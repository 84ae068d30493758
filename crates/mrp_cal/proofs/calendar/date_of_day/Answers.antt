use Rattle.std.proofs.Common.{arith}
use Rattle.jiff.proofs.SpanFacts.{signed_arith}
use Rattle.mrp_cal.proofs.Calendars.{is_day_0, has_day}
use Rattle.mrp_cal.proofs.calendar.date_of_day.Goals as goal

pub date_after-requires-clause-within : goal.date_after-requires-clause-within
date_after-requires-clause-within c = has_day _ c.args.day (is_day_0 c.date.result c.date.ensures) c.requires

pub returns : goal.returns
returns c = omega (arith, signed_arith, c.date_after.ensures, is_day_0 c.date.result c.date.ensures)
