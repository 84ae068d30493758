-- The calendar: the digits of the text of one of its dates.
use Rattle.std.proofs.Common.{◌≡◌, ℕ, ◌+◌, ◌-◌, ◌*◌, ◌/◌, ◌%◌, ◌≤◌, inl, ℤ, pos, negsuc, ◌≤ℤ◌, ◌<ℤ◌, unsigned_abs, refl, ap, arith, rules}
use Rattle.std.proofs.lemmas.Int.{by_lt_z}
use Rattle.std.specs.Int.{IsInRange}
use Rattle.jiff.specs.Types.{Date}
use Rattle.jiff.specs.Words.{IsYear, days_in_month, epoch_day}
use Rattle.jiff.proofs.OnLiterals.{jiff_on_literals}
use Rattle.jiff.proofs.SpanFacts.{signed_arith}
use Rattle.jiff.proofs.Family.{epoch_day-lt}
use Rattle.mrp_cal.specs.DateText.{IsDateText, IsDigit}
use Rattle.mrp_cal.specs.Days.{date_text}

pub year_in : IsYear (pos 1970)
year_in = search rules

pub month_in : IsInRange 1 12 1
month_in = search rules

pub day_in : IsInRange 1 (days_in_month (pos 1970) 1) 1
day_in = search rules

unfoldable pub day_zero : Date
day_zero = record { year = pos 1970; month = 1; day = 1; year_in = year_in; month_in = month_in; day_in = day_in }

pub epoch_day-day_zero : epoch_day day_zero ≡ pos 0
unfolding jiff_on_literals day_zero
epoch_day-day_zero = refl

-- a date from 1970-01-01 on has a year that isn't negative
pub year_not_negative : (date : Date) → pos 0 ≤ℤ epoch_day date → pos 0 ≤ℤ date.year
unfolding day_zero
year_not_negative date since =
    by_lt_z date.year (pos 0)
    (λ before.
    let early : date.year <ℤ day_zero.year = omega (arith, signed_arith, before) in
    absurd (omega (arith, signed_arith, since, epoch_day-lt date day_zero (inl early), epoch_day-day_zero)))
    (λ from. omega (arith, signed_arith, from))

pub two_digits : (n : ℕ) → n ≤ 99 → 10 * (48 + n / 10 - 48) + (48 + n % 10 - 48) ≡ n
two_digits n h = omega arith

pub four_digits : (n : ℕ) → n ≤ 9999 → 1000 * (48 + n / 1000 - 48) + 100 * (48 + n / 100 % 10 - 48) + 10 * (48 + n / 10 % 10 - 48) + (48 + n % 10 - 48) ≡ n
four_digits n h = omega arith

digit_first : (n k : ℕ) → n / k ≤ 9 → IsDigit (48 + n / k)
digit_first n k h = (omega arith, omega arith)

digit_last : (n : ℕ) → IsDigit (48 + n % 10)
digit_last n = (omega arith, omega arith)

-- the ten bytes of a date spell it
pub text_spells : (date : Date) (y m d : ℕ) → date.year ≡ pos y → date.month ≡ m → date.day ≡ d → IsDateText (date_text y m d) date
text_spells date y m d year month day =
    let y_in : y ≤ 9999 = omega (arith, signed_arith, year, date.year_in) in
    let m_in : m ≤ 12 = omega (arith, month, date.month_in) in
    let d_in : d ≤ 31 = let long : days_in_month date.year date.month ≤ 31 = grind arith in omega (arith, day, date.day_in, long) in
    record {
      shape = record {
        ten = refl;
        year = (digit_first y 1000 (omega arith), digit_last (y / 100), digit_last (y / 10), digit_last y);
        dash = refl;
        month = (digit_first m 10 (omega arith), digit_last m);
        second_dash = refl;
        day = (digit_first d 10 (omega arith), digit_last d);
      };
      parts = (rw (four_digits y y_in) year, rw (two_digits m (omega arith)) (ap pos month), rw (two_digits d (omega arith)) (ap pos day));
    }

pub not_negative : (z : ℤ) → pos 0 ≤ℤ z → z ≡ pos (unsigned_abs z)
not_negative (pos n) h = refl
not_negative (negsuc n) h = absurd (omega (arith, signed_arith, h))
