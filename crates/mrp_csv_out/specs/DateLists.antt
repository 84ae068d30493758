-- CSV output: lists of dates for its rows, and the date of a period in them.
use Rattle.std.specs.Prelude.{ℕ, List, [], map, slice_index_or}
use Rattle.std.specs.List.{range_with_len}
use Rattle.mrp_cal.specs.Calendar.{CalendarTerms}
use Rattle.mrp_csv_out.specs.Dates.{period_date}

-- the dates of the first periods
abbrev pub first_dates : CalendarTerms → ℕ → List (List ℕ)
first_dates calendar count = map (period_date calendar) (range_with_len 0 count)

-- the date of a period, of a list of dates
abbrev pub date_in : List (List ℕ) → ℕ → List ℕ
date_in dates t = slice_index_or dates t []
