-- The calendar: its end in day numbers, and that a text spells one day.
use Rattle.std.proofs.Common.{rules, ◌≡◌, ℕ, ◌+◌, ◌-◌, ◌*◌, ◌<◌, ◌≤◌, ℤ, pos, ◌+ℤ◌, refl, arith}
use Rattle.jiff.specs.Types.{Date}
use Rattle.std.specs.Int.{IsInRange}
use Rattle.jiff.specs.Words.{IsYmd, IsYear, days_in_month, epoch_day, IsEpochDay}
use Rattle.jiff.proofs.OnLiterals.{jiff_on_literals}
use Rattle.jiff.proofs.SpanFacts.{signed_arith}
use Rattle.mrp_cal.specs.Calendar.{last_date}
use Rattle.mrp_cal.proofs.Digits.{day_zero, epoch_day-day_zero}

pub last_date-is : last_date ≡ 84005
unfolding last_date
last_date-is = refl

pub is_year : IsYear (pos 2199)
is_year = search rules

pub is_month : IsInRange 1 12 12
is_month = search rules

pub is_day : IsInRange 1 (days_in_month (pos 2199) 12) 31
is_day = search rules

-- the last date, as the library has it
unfoldable pub end_date : Date
end_date = record { year = pos 2199; month = 12; day = 31; year_in = is_year; month_in = is_month; day_in = is_day }

pub epoch_day-end_date : epoch_day end_date ≡ pos 84005
unfolding jiff_on_literals end_date
epoch_day-end_date = refl

-- so many periods from that day on end after the last date
pub ends_after : (first days periods : ℕ) → 84006 < first + periods * days → last_date < first + (periods - 0) * days - 1
ends_after first days periods h =
    let all : periods - 0 ≡ periods = omega arith in
    rw (last_date-is, all) (omega arith)

-- or not
pub ends_by : (first days periods : ℕ) → first + periods * days ≤ 84006 → first + (periods - 0) * days ≤ last_date + 1
ends_by first days periods h =
    let all : periods - 0 ≡ periods = omega arith in
    rw (last_date-is, all) (omega arith)

-- so many days after day 0 is a day that the library has
pub has_day : (first : ℤ) (number : ℕ) → first ≡ pos 0 → number ≤ 84005 → IsEpochDay (first +ℤ pos number)
has_day first number e h = rw e (omega (arith, signed_arith), omega (arith, signed_arith))

-- what 1970-01-01 is, is day 0
pub is_day_0 : (date : Date) → IsYmd (pos 1970) (pos 1) (pos 1) date → epoch_day date ≡ pos 0
unfolding day_zero
is_day_0 date parts =
    let month : date.month ≡ 1 = omega (arith, signed_arith, parts.1) in
    let day : date.day ≡ 1 = omega (arith, signed_arith, parts.2) in
    rw (parts.0, month, day) epoch_day-day_zero
