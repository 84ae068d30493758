-- The calendar: what it is, a first day, periods of so many days each, and periods whose first days are given.
use Rattle.std.specs.Prelude.{ℕ, ◌+◌, ◌-◌, ◌*◌, ◌<◌, ◌≤◌, nat_lt, if◌then◌else◌, List, [], ◌∷◌}
use Rattle.mrp_qty.specs.declared.horizon.TheConstants.{LONGEST}
use Rattle.mrp_cal.specs.declared.begun.Begun.{Begun}

-- first is the day on which period 0 begins, counted from 1970-01-01. begun has the periods whose first days are given,
-- in rising order; each other period begins so many days after the one before it
pub record CalendarTerms : Type 0 where
  pub first : ℕ
  pub days : ℕ
  pub periods : ℕ
  pub begun : List Begun

-- the day on which period t begins, where periods from `since` on follow each other from `day` on, until the next period
-- whose first day is given
abbrev pub day_since : ℕ → ℕ → ℕ → List Begun → ℕ → ℕ
day_since days since day [] t = day + (t - since) * days
day_since days since day (b ∷ later) t =
    if nat_lt t b.period then day + (t - since) * days else day_since days b.period b.day later t

-- the day on which period t begins, t counted from 0
abbrev pub first_day : CalendarTerms → ℕ → ℕ
first_day c t = day_since c.days 0 c.first c.begun t

-- the last day of the last period: the day before the period after it would begin
abbrev pub last_day : CalendarTerms → ℕ
last_day c = first_day c c.periods - 1

-- the last day that a calendar may have, 2199-12-31, as a day number
unfoldable pub last_date : ℕ
last_date = 84005

-- the days of a period where none is given: 1 to 31
abbrev pub IsPeriodLength : ℕ → Type 0
IsPeriodLength days = (1 ≤ days) × (days ≤ 31)

-- periods of so many days from `since` on, which begins on `day`, end by the last date
abbrev pub EndsInTime : ℕ → ℕ → ℕ → ℕ → Type 0
EndsInTime days periods since day = day + (periods - since) * days ≤ last_date + 1

-- each period whose first day is given comes after the one before it and within the calendar, and begins later than the
-- period before it as that stood; and as often as a first day was given, the last period ended in time
abbrev pub AreBegun : ℕ → ℕ → ℕ → ℕ → List Begun → Type 0
AreBegun days periods since day [] = EndsInTime days periods since day
AreBegun days periods since day (b ∷ later) =
    EndsInTime days periods since day × (since < b.period) × (b.period < periods)
    × (day + (b.period - 1 - since) * days < b.day) × AreBegun days periods b.period b.day later

-- what every calendar says: 1 to 520 periods, each of 1 to 31 days where none is given, first days that are given in
-- rising order, and no day after 2199-12-31
pub record IsCalendar (c : CalendarTerms) : Type 0 where
  pub length : IsPeriodLength c.days
  pub periods : (1 ≤ c.periods) × (c.periods ≤ LONGEST)
  pub begun : AreBegun c.days c.periods 0 c.first c.begun
