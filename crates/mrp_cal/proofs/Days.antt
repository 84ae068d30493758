-- The calendar: the dates that it has day by day are those of the day numbers.
use Rattle.std.proofs.Common.{◌≡◌, ℕ, zero, suc, ◌+◌, ◌<◌, ◌≤◌, nat_lt, cond, List, Bool, true, false, ℤ, pos, ◌+ℤ◌, ◌≤ℤ◌, unsigned_abs, refl}
use Rattle.std.proofs.Common.{sym, ap, ◌∙◌, arith}
use Rattle.std.proofs.lemmas.Bool.{ltb-true, ltb-false}
use Rattle.std.proofs.lemmas.Int.{by_lt_z}
use Rattle.jiff.specs.Types.{Date}
use Rattle.jiff.specs.Words.{days_in_month, epoch_day}
use Rattle.jiff.proofs.SpanFacts.{signed_arith}
use Rattle.jiff.proofs.Family.{epoch_day_injective, epoch_day_same, days_from_civil-day, days_from_civil-next_month, days_from_civil-next_year, days_from_civil-max, epoch_day_range}
use Rattle.mrp_cal.specs.DateText.{SpellsDay}
use Rattle.mrp_cal.specs.Days.{Parts, date_at, date_text, day_text}
use Rattle.mrp_cal.proofs.Digits.{day_zero, epoch_day-day_zero, text_spells}

pub record HasParts (date : Date) (p : Parts) (n : ℕ) : Type 0 where
  pub year : date.year ≡ pos p.year
  pub month : date.month ≡ p.month
  pub day : date.day ≡ p.day
  pub number : epoch_day date ≡ pos n

-- the last day of a year before the last date has a next year
year_by : (date : Date) (n : ℕ) → epoch_day date ≡ pos n → n < 2932896 → date.month ≡ 12 → date.day ≡ 31 → date.year ≤ℤ pos 9998
year_by date n number h month day =
    by_lt_z (pos 9998) date.year
    (λ after.
    let year : date.year ≡ pos 9999 = omega (arith, signed_arith, date.year_in, after) in
    let last : epoch_day date ≡ pos 2932896 = rw (year, month, day) days_from_civil-max in
    absurd (omega (arith, signed_arith, number, last)))
    (λ by. by)

short : (y : ℤ) (m : ℕ) → (28 ≤ days_in_month y m) × (days_in_month y m ≤ 31)
short y m = grind arith

-- the date has these parts, and is the day after
record IsNext (date next : Date) (y : ℤ) (m d : ℕ) : Type 0 where
  year : next.year ≡ y
  month : next.month ≡ m
  day : next.day ≡ d
  number : epoch_day next ≡ epoch_day date +ℤ pos 1

in_month : (date : Date) → date.day < days_in_month date.year date.month → (next : Date) × IsNext date next date.year date.month (date.day + 1)
in_month date more =
    let next : Date = record {
      year = date.year;
      month = date.month;
      day = date.day + 1;
      year_in = date.year_in;
      month_in = date.month_in;
      day_in =
          (omega arith, omega arith);
    } in (
      next,
      record {
        year = refl;
        month = refl;
        day = refl;
        number =
            omega (arith, signed_arith, days_from_civil-day date.year date.month date.day (date.day + 1) date.day_in.0 (omega arith));
      },
    )

in_year : (date : Date) → days_in_month date.year date.month ≤ date.day → date.month < 12 → (next : Date) × IsNext date next date.year (date.month + 1) 1
in_year date last more =
    let next : Date = record {
      year = date.year;
      month = date.month + 1;
      day = 1;
      year_in = date.year_in;
      month_in = (omega arith, omega arith);
      day_in =
          (omega arith, omega (arith, (short date.year (date.month + 1)).0));
    } in
    let whole : date.day ≡ days_in_month date.year date.month = omega (arith, last, date.day_in.1) in
    (next, record { year = refl; month = refl; day = refl; number = days_from_civil-next_month date.year date.month date.day date.month_in.0 whole })

after_year : (date : Date) (n : ℕ) → epoch_day date ≡ pos n → n < 2932896 → days_in_month date.year date.month ≤ date.day → 12 ≤ date.month
    → (next : Date) × IsNext date next (date.year +ℤ pos 1) 1 1
after_year date n at before last end =
    let december : date.month ≡ 12 = omega (arith, end, date.month_in.1) in
    let whole : date.day ≡ days_in_month date.year date.month = omega (arith, last, date.day_in.1) in
    let day : date.day ≡ 31 = rw december at whole in
    let by = year_by date n at before december day in
    let next : Date = record {
      year = date.year +ℤ pos 1;
      month = 1;
      day = 1;
      year_in =
          (omega (arith, signed_arith, date.year_in.0), omega (arith, signed_arith, by));
      month_in = (omega arith, omega arith);
      day_in =
          (omega arith, omega (arith, (short (date.year +ℤ pos 1) 1).0));
    } in (
      next,
      record {
        year = refl;
        month = refl;
        day = refl;
        number =
            rw (december, day) (days_from_civil-next_year date.year (date.year +ℤ pos 1) (omega (arith, signed_arith, date.year_in.0)) refl);
      },
    )

has_next : (date next : Date) (p q : Parts) (n : ℕ) (y : ℤ) (m d : ℕ) → HasParts date p n → IsNext date next y m d → y ≡ pos q.year → m ≡ q.month → d ≡ q.day
    → HasParts next q (suc n)
has_next date next p q n y m d h k year month day =
    record { year = k.year ∙ year; month = k.month ∙ month; day = k.day ∙ day; number = omega (arith, signed_arith, k.number, h.number) }

next_by : (date : Date) (p : Parts) (n : ℕ) → HasParts date p n → n < 2932896 → (in_month in_year : Bool)
    → nat_lt p.day (days_in_month (pos p.year) p.month) ≡ in_month → nat_lt p.month 12 ≡ in_year
    → (next : Date) × HasParts next (cond in_month (record { year = p.year; month = p.month; day = p.day + 1 })
    (cond in_year (record { year = p.year; month = p.month + 1; day = 1 }) (record { year = p.year + 1; month = 1; day = 1 }))) (suc n)
next_by date p n h by true _ e e₂ =
    let more : p.day < days_in_month (pos p.year) p.month = ltb-true _ _ e in
    let next = in_month date (rw (h.day, h.year, h.month) more) in
    (next.0, has_next _ _ p _ n _ _ _ h next.1 h.year h.month (ap (λ d. d + 1) h.day))
next_by date p n h by false true e e₂ =
    let last : days_in_month (pos p.year) p.month ≤ p.day = ltb-false _ _ e in
    let more : p.month < 12 = ltb-true _ _ e₂ in
    let next = in_year date (rw (h.day, h.year, h.month) last) (rw h.month more) in
    (next.0, has_next _ _ p _ n _ _ _ h next.1 h.year (ap (λ m. m + 1) h.month) refl)
next_by date p n h by false false e e₂ =
    let last : days_in_month (pos p.year) p.month ≤ p.day = ltb-false _ _ e in
    let end : 12 ≤ p.month = ltb-false _ _ e₂ in
    let next = after_year date n h.number by (rw (h.day, h.year, h.month) last) (rw h.month end) in
    (next.0, has_next _ _ p _ n _ _ _ h next.1 (ap (λ y. y +ℤ pos 1) h.year) refl refl)

-- every day up to 9999-12-31 is a date, the one that the calendar has there
date_on : (n : ℕ) → n ≤ 2932896 → (date : Date) × HasParts date (date_at n) n
unfolding date_at day_zero
date_on zero h = (day_zero, record { year = refl; month = refl; day = refl; number = epoch_day-day_zero })
date_on (suc n) h =
    let before = date_on n (omega arith) in
    next_by before.0 (date_at n) n before.1 (omega arith) _ _ refl refl

-- and a date with that number has those parts
pub parts_at : (date : Date) (n : ℕ) → epoch_day date ≡ pos n → n ≤ 2932896 → HasParts date (date_at n) n
parts_at date n number h =
    let on = date_on n h in
    let same = epoch_day_injective date on.0 (number ∙ sym on.1.number) in
    record { year = same.0 ∙ on.1.year; month = same.1 ∙ on.1.month; day = same.2 ∙ on.1.day; number = number }

same_text : (y₁ y₂ m₁ m₂ d₁ d₂ : ℕ) → y₁ ≡ y₂ → m₁ ≡ m₂ → d₁ ≡ d₂ → date_text y₁ m₁ d₁ ≡ date_text y₂ m₂ d₂
same_text y₁ y₂ m₁ m₂ d₁ d₂ y m d = rw (y, m, d) refl

-- no date is after 9999-12-31
pub has_text : (date : Date) (n : ℕ) → epoch_day date ≡ pos n → n ≤ 2932896
has_text date n number = omega (arith, signed_arith, number, epoch_day_range date)

-- so the text of a date is that of its day
pub date_text-day_text : (date : Date) (day : ℕ) → epoch_day date ≡ pos day → date_text (unsigned_abs date.year) date.month date.day ≡ day_text day
date_text-day_text date day number =
    let parts = parts_at date day number (has_text date day number) in
    same_text _ _ _ _ _ _ (ap unsigned_abs parts.year) parts.month parts.day

-- a text spells one day at most
pub one_day : (text : List ℕ) (a b : ℤ) → SpellsDay text a → SpellsDay text b → a ≡ b
one_day text a b h k =
    let p = h.1.parts in
    let q = k.1.parts in
    let month : h.0.month ≡ k.0.month = omega (arith, signed_arith, p.1, q.1) in
    let day : h.0.day ≡ k.0.day = omega (arith, signed_arith, p.2, q.2) in
    sym h.2 ∙ epoch_day_same h.0 k.0 (p.0 ∙ sym q.0) month day ∙ k.2

-- and the text of a day spells it
pub spells_day : (day : ℕ) → day ≤ 2932896 → SpellsDay (day_text day) (pos day)
spells_day day by =
    let on = date_on day by in
    (on.0, text_spells on.0 _ _ _ on.1.year on.1.month on.1.day, on.1.number)
