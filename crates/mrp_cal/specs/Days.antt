-- The calendar day by day: the date that each day from 1970-01-01 on has, and its text.
use Rattle.std.specs.Prelude.{ℕ, zero, suc, ◌+◌, ◌/◌, ◌%◌, nat_lt, if◌then◌else◌, List, [], ◌∷◌, pos}
use Rattle.jiff.specs.Words.{days_in_month}

-- the text of a year up to 9999, a month and a day, with zeros before them
abbrev pub date_text : ℕ → ℕ → ℕ → List ℕ
date_text year month day =
    (48 + year / 1000) ∷ (48 + year / 100 % 10) ∷ (48 + year / 10 % 10) ∷ (48 + year % 10)
    ∷ 45 ∷ (48 + month / 10) ∷ (48 + month % 10) ∷ 45 ∷ (48 + day / 10) ∷ (48 + day % 10) ∷ []

-- a month from 1, and a day of the month from 1
pub record Parts : Type 0 where
  pub year : ℕ
  pub month : ℕ
  pub day : ℕ

-- the day after: the next of the month, or else the first of the next month, or else of the next year
abbrev pub next_day : Parts → Parts
next_day p =
    if nat_lt p.day (days_in_month (pos p.year) p.month) then
    record { year = p.year; month = p.month; day = p.day + 1 }
    else (if nat_lt p.month 12 then record { year = p.year; month = p.month + 1; day = 1 }
    else record { year = p.year + 1; month = 1; day = 1 })

-- the date so many days after 1970-01-01
unfoldable pub date_at : ℕ → Parts
date_at zero = record { year = 1970; month = 1; day = 1 }
date_at (suc n) = next_day (date_at n)

-- the text of the date that a day from 1970-01-01 on has
abbrev pub day_text : ℕ → List ℕ
day_text day = let p = date_at day in date_text p.year p.month p.day
