use Rattle.std.proofs.Common.{◌≡◌, ◌+◌, ◌-◌, ◌*◌, ◌<◌, ◌≤◌, ℕ, ap, sym, subst, ◌∙◌, arith}
use Rattle.mrp_cal.specs.Calendar.{CalendarTerms, first_day, IsCalendar}
use Rattle.mrp_cal.proofs.BegunFacts.{day-until}
use Rattle.mrp_cal.proofs.calendar.Calendar.day.Goals as goal

-- the day that is counted, and that it is one of the calendar
counted : (c : CalendarTerms) (day periods days t : ℕ) → days ≡ c.days → first_day c t ≡ day + periods * c.days → day + periods * days ≡ first_day c t
counted c day periods days t e is = ap (λ d. day + periods * d) e ∙ sym is

within : (c : CalendarTerms) (day periods days t : ℕ) → IsCalendar c → t < c.periods → days ≡ c.days → first_day c t ≡ day + periods * c.days
    → day + periods * days ≤ 84005
within c day periods days t h lt e is = day-until c h t (day + periods * days) lt (counted c day periods days t e is)

pub overflow_mul-result : goal.overflow_mul-result
overflow_mul-result c =
    let since = c.since-since.result in
    omega (
      arith,
      within c.args.self.now since.day (c.args.t - since.period) c.self.inside.days c.args.t (subst IsCalendar c.self.view_is c.self.invariant.0)
          c.requires (ap (λ x. x.days) c.self.view_is) c.since-since.ensures.day,
    )

pub returns-clause-value : goal.returns-clause-value
returns-clause-value c =
    let since = c.since-since.result in
    counted c.args.self.now since.day (c.args.t - since.period) c.self.inside.days c.args.t (ap (λ x. x.days) c.self.view_is) c.since-since.ensures.day

pub returns-clause-until : goal.returns-clause-until
returns-clause-until c =
    day-until c.args.self.now (subst IsCalendar c.self.view_is c.self.invariant.0) c.args.t _ c.requires (returns-clause-value c)

pub overflow_add-result : goal.overflow_add-result
overflow_add-result c = omega (arith, returns-clause-until c)
