-- The calendar: what the text `yyyy-mm-dd` of a date is. Ten bytes, four digits of the year, two of the month and two
-- of the day, with a dash between.
use Rattle.std.specs.Prelude.{◌≡◌, ℕ, ◌+◌, ◌-◌, ◌*◌, ◌≤◌, List, length, slice_index, ℤ, pos}
use Rattle.jiff.specs.Types.{Date}
use Rattle.jiff.specs.Words.{IsYmd, epoch_day}

-- one of the bytes `0` to `9`
abbrev pub IsDigit : ℕ → Type 0
IsDigit byte = (48 ≤ byte) × (byte ≤ 57)

-- the value of the digit at a place of a text
abbrev pub digit : List ℕ → ℕ → ℕ
digit text place = slice_index text place - 48

abbrev pub year_of : List ℕ → ℕ
year_of text = 1000 * digit text 0 + 100 * digit text 1 + 10 * digit text 2 + digit text 3

abbrev pub month_of : List ℕ → ℕ
month_of text = 10 * digit text 5 + digit text 6

abbrev pub day_of : List ℕ → ℕ
day_of text = 10 * digit text 8 + digit text 9

-- the shape dddd-dd-dd, d being any digit
pub record HasDateShape (text : List ℕ) : Type 0 where
  pub ten : length text ≡ 10
  pub year : IsDigit (slice_index text 0) × IsDigit (slice_index text 1) × IsDigit (slice_index text 2)
      × IsDigit (slice_index text 3)
  pub dash : slice_index text 4 ≡ 45
  pub month : IsDigit (slice_index text 5) × IsDigit (slice_index text 6)
  pub second_dash : slice_index text 7 ≡ 45
  pub day : IsDigit (slice_index text 8) × IsDigit (slice_index text 9)

-- the text spells the date
pub record IsDateText (text : List ℕ) (date : Date) : Type 0 where
  pub shape : HasDateShape text
  pub parts : IsYmd (pos (year_of text)) (pos (month_of text)) (pos (day_of text)) date

-- the text spells the day with that number, counted from 1970-01-01
abbrev pub SpellsDay : List ℕ → ℤ → Type 0
SpellsDay text day = (date : Date) × IsDateText text date × (epoch_day date ≡ day)
