use Rattle.std.proofs.Common.{◌≡◌, ◌≤◌, drop}
use Rattle.mrp_cal.specs.Calendar.{day_since, first_day}
use Rattle.mrp_cal.proofs.calendar.Calendar.since.Given as goal

abbrev pub invariant-loop-begun : goal.invariant-loop-begun
invariant-loop-begun l = record {
  up_to : l.since.period ≤ l.t;
  day : first_day l.self l.t ≡ day_since l.self.days l.since.period l.since.day (drop l.begun-index l.begun-items) l.t;
}
