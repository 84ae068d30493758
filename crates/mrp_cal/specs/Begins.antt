-- The calendar: a period whose first day is given to it, what it is then, or why it is refused.
use Rattle.std.specs.Prelude.{ℕ, ◌-◌, nat_lt, if◌then◌else◌, List, [], ◌∷◌, ◌++◌, Option, Some, None, Result, Ok, Err}
use Rattle.std.specs.Prelude.{position}
use Rattle.std.specs.List.{range_with_len}
use Rattle.std.specs.Str.{bytes_eq}
use Rattle.mrp_cal.specs.declared.begun.Begun.{Begun}
use Rattle.mrp_cal.specs.declared.fault.CalFault.{CalFault}
use Rattle.mrp_cal.specs.declared.fault.CalFault.TheVariants.{BadDate, PastEnd}
use Rattle.mrp_cal.specs.Calendar.{CalendarTerms, first_day, last_date, last_day}
use Rattle.mrp_cal.specs.Days.{day_text}

-- the days from 1970-01-01 to 9999-12-31, after which dates have no text of ten bytes
unfoldable pub all_days : ℕ
all_days = 2932897

-- the day whose text it is, counted from 1970-01-01
unfoldable pub day_spelled : List ℕ → Option ℕ
day_spelled text = position (λ day. bytes_eq text (day_text day)) (range_with_len 0 all_days)

-- the last period whose first day is given, which is period 0 where no other is
abbrev pub latest_of : ℕ → List Begun → ℕ
latest_of since [] = since
latest_of since (b ∷ later) = latest_of b.period later

abbrev pub latest_begun : CalendarTerms → ℕ
latest_begun c = latest_of 0 c.begun

-- the calendar whose period begins on that day, and whose later periods follow it
abbrev pub begun_with : CalendarTerms → ℕ → ℕ → CalendarTerms
begun_with c period day = record c { begun = c.begun ++ record { period = period; day = day } ∷ [] }

-- a period begins later than the one before it, and the last one ends by the last date
abbrev pub begun_on : CalendarTerms → ℕ → Option ℕ → Result CalendarTerms CalFault
begun_on c period None = Err BadDate
begun_on c period (Some day) =
    if nat_lt (first_day c (period - 1)) day then
    (if nat_lt last_date (last_day (begun_with c period day)) then Err PastEnd else Ok (begun_with c period day))
    else Err BadDate

-- what comes of a date as the first day of a period
unfoldable pub begins : CalendarTerms → ℕ → List ℕ → Result CalendarTerms CalFault
begins c period text = begun_on c period (day_spelled text)
