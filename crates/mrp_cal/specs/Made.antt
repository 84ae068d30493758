-- The calendar: when it is made of a text and two numbers, and when it is refused.
use Rattle.std.specs.Prelude.{◌≡◌, ℕ, ◌<◌, List, [], pos}
use Rattle.mrp_cal.specs.DateText.{SpellsDay}
use Rattle.mrp_cal.specs.declared.fault.CalFault.{CalFault}
use Rattle.mrp_cal.specs.declared.fault.CalFault.TheVariants.{BadDate, DaysOutOfRange, PastEnd}
use Rattle.mrp_cal.specs.Calendar.{CalendarTerms, last_day, last_date, IsPeriodLength}

-- the text spells a date from 1970-01-01 on
abbrev pub IsStartText : List ℕ → Type 0
IsStartText text = (day : ℕ) × SpellsDay text (pos day)

-- so many periods of so many days each, the first of which begins on the date that the text spells
pub record IsCalendarFrom (text : List ℕ) (length count : ℕ) (c : CalendarTerms) : Type 0 where
  pub first : SpellsDay text (pos c.first)
  pub days : c.days ≡ length
  pub periods : c.periods ≡ count
  pub begun : c.begun ≡ []

-- such periods begin on a date from 1970-01-01 on, and the last of them ends after the last date
pub record IsPastEnd (text : List ℕ) (length count : ℕ) (c : CalendarTerms) : Type 0 where
  pub from : IsCalendarFrom text length count c
  pub past : last_date < last_day c

-- when a calendar is refused: of the three faults the first that applies
abbrev pub IsRefused : List ℕ → ℕ → ℕ → CalFault → Type 0
IsRefused text days periods BadDate = ¬ (IsStartText text)
IsRefused text days periods DaysOutOfRange = IsStartText text × ¬ (IsPeriodLength days)
IsRefused text days periods PastEnd =
    IsPeriodLength days × ((c : CalendarTerms) × IsPastEnd text days periods c)
