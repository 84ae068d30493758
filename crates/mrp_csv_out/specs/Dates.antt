-- CSV output: the dates of a plan's periods for its rows.
use Rattle.std.specs.Prelude.{ℕ, List, map}
use Rattle.std.specs.List.{range_with_len}
use Rattle.mrp_cal.specs.Calendar.{CalendarTerms, first_day}
use Rattle.mrp_cal.specs.Days.{day_text}

-- the date on which a period begins, as yyyy-mm-dd
unfoldable pub period_date : CalendarTerms → ℕ → List ℕ
period_date calendar t = day_text (first_day calendar t)

-- the dates of all periods
abbrev pub dates_of : CalendarTerms → List (List ℕ)
dates_of calendar = map (period_date calendar) (range_with_len 0 calendar.periods)
