-- A valid table read back: the day rows that are written of it are read as its own, one after the other.
use Rattle.std.proofs.Common.{◌≡◌, ◌≤◌, ◌<◌, ◌^◌, ℕ, ◌+◌, ◌-◌, true, List, [], ◌∷◌, ◌++◌, codes, map, Some, Ok, false, refl, sym, arith}
use Rattle.std.specs.List.{list_all}
use Rattle.std.specs.Prelude.{decimal}
use Rattle.std.specs.Str.{is_utf8}
use Rattle.csv.specs.Records.{field_at}
use Rattle.mrp_cal.specs.declared.begun.Begun.{Begun}
use Rattle.mrp_cal.specs.Begins.{begins, latest_begun}
use Rattle.mrp_cal.specs.Calendar.{CalendarTerms, last_date}
use Rattle.mrp_cal.specs.Days.{day_text}
use Rattle.mrp_cal.proofs.BegunFacts.{begun-before, with_begun}
use Rattle.mrp_cal.proofs.Calendars.{last_date-is}
use Rattle.mrp_cal.proofs.Days.{spells_day}
use Rattle.mrp_master_data.specs.Growing.{with_calendar}
use Rattle.mrp_master_data.specs.Parsing.{number_within}
use Rattle.mrp_master_data.specs.Table.{horizon, IsTable, Table}
use Rattle.mrp_master_data.proofs.Ranges.{number_written}
use Rattle.mrp_validation.specs.declared.kind.Kind.{Kind}
use Rattle.mrp_validation.specs.declared.kind.Kind.TheVariants as kind
use Rattle.mrp_validation.specs.Grammar.{day_in_row, day_row, kind_place}
use Rattle.mrp_validation.specs.Reading.{row_after, row_of_kind}
use Rattle.mrp_validation.specs.Written.{day_fields, last_row}
use Rattle.mrp_validation.proofs.BackEnd.{end_ends}
use Rattle.mrp_validation.proofs.BackRows.{Ends, kind_read, may_stand, one_by_one, row_read, undated}
use Rattle.mrp_validation.proofs.BackTexts.{date_is_text, number_is_text, word_is_text}
use Rattle.mrp_master_data.proofs.LimitFacts.{any_limited}

three_texts : (w a b : List ℕ) → is_utf8 w ≡ true → is_utf8 a ≡ true → is_utf8 b ≡ true → list_all is_utf8 (w ∷ a ∷ b ∷ [] ∷ [] ∷ [] ∷ [] ∷ [] ∷ []) ≡ true
three_texts w a b uw ua ub = rw (uw, ua, ub, word_is_text [] refl) refl

day_read : (N : Table) (a b : List ℕ) (period : ℕ) (c : CalendarTerms) → number_within a (latest_begun N.calendar + 1) (horizon N - 1) ≡ Some period
    → begins N.calendar period b ≡ Ok c → day_row N (codes "day" ∷ a ∷ b ∷ [] ∷ [] ∷ [] ∷ [] ∷ [] ∷ []) ≡ Ok (with_calendar N c)
unfolding field_at day_in_row
day_read N a b period c number made = rw (number, made) refl

-- the text of a day up to the last date
day_is_text : (day : ℕ) → day ≤ last_date → is_utf8 (day_text day) ≡ true
day_is_text day by =
    let last : day ≤ 84005 = rw (← last_date-is) by in
    date_is_text _ _ _ (spells_day day (omega (arith, last))).1.shape

module _ (N : Table) (table : IsTable N) where
  -- the table in which these periods have a first day of their own, without its end row
  abbrev pub with_days : List Begun → Table
  with_days begun = record N { calendar = with_begun N.calendar begun; ended = false }

  day_step : (before : List Begun) (b : Begun) (after : List Begun) (last : Kind) → before ++ b ∷ after ≡ N.calendar.begun
      → kind_place last ≤ kind_place kind.Day
      → row_after (with_days before, last) (day_fields b) ≡ Ok (with_days (before ++ b ∷ []), kind.Day)
  unfolding field_at row_of_kind
  day_step before b after last e low =
      let is = begun-before N.calendar before b after table.read.calendar (sym e) in
      let early : b.period < 10 ^ 16 = omega (arith, is.within, (any_limited N table.read.limits).periods) in
      row_read (with_days before) (with_days (before ++ b ∷ [])) last kind.Day (day_fields b)
      (kind_read (day_fields b) kind.Day (three_texts (codes "day") (decimal b.period) (day_text b.day) (word_is_text (codes "day") refl)
      (number_is_text b.period early) (day_is_text b.day is.by)) refl refl refl)
      (may_stand kind.Day last (omega arith) low (omega (arith, low)))
      (day_read (with_days before) (decimal b.period) (day_text b.day) b.period (with_begun N.calendar (before ++ b ∷ []))
      (number_written (latest_begun (with_begun N.calendar before) + 1) (horizon N - 1) b.period (omega (arith, is.later)) (omega (arith, is.within)) early)
      is.begins)

  pub days_end : (last : Kind) → kind_place last ≤ kind_place kind.Day → Ends (undated N table, last) (map day_fields N.calendar.begun ++ last_row N) N
  days_end last low =
      one_by_one kind.Day with_days day_fields N.calendar.begun (last_row N) N day_step (end_ends N table) [] N.calendar.begun last refl low
