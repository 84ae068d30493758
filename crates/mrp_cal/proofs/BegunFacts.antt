-- The calendar: what comes of a period whose first day is given to it, said and taken back.
use Rattle.std.proofs.Common.{◌≡◌, ℕ, ◌+◌, ◌-◌, ◌*◌, ◌<◌, ◌≤◌, nat_lt, cond, Bool, true, false, List, [], ◌∷◌, ◌++◌, length, take, get_or, Option, Some, None, Ok, Err, refl, sym, ap, subst, ◌∙◌, arith}
use Rattle.std.proofs.Math.Nat.{mul-le-mul_right}
use Rattle.std.specs.List.{slice_get}
use Rattle.std.proofs.lemmas.List.{length-take-le}
use Rattle.std.proofs.lemmas.Option.{get_or_from_slice_get}
use Rattle.std.proofs.lemmas.Bool.{cond-true, cond-false, lt-ltb, le-ltb, ltb-true, ltb-false}
use Rattle.mrp_cal.specs.declared.begun.Begun.{Begun}
use Rattle.mrp_cal.specs.declared.fault.CalFault.TheVariants.{BadDate, PastEnd}
use Rattle.mrp_cal.specs.Calendar.{CalendarTerms, first_day, IsCalendar, last_date, last_day}
use Rattle.mrp_cal.specs.Begins.{begins, begun_on, begun_with, day_spelled, latest_begun, latest_of}
use Rattle.mrp_cal.specs.Days.{day_text}
use Rattle.mrp_cal.proofs.Calendars.{last_date-is}
use Rattle.mrp_cal.proofs.Since.{are_begun-front, are_begun-more, day_since-ends, day_since-more, day_since-rises, latest-counts, latest-within}
use Rattle.mrp_cal.proofs.Spelled.{day_spelled-text, text-day_spelled}

-- the text of a day spells it
pub day_spelled-day_text : (day : ℕ) → day ≤ last_date → day_spelled (day_text day) ≡ Some day
day_spelled-day_text day by = day_spelled-text day (omega (arith, by, last_date-is))

-- and what spells a day is its text
pub day_text-day_spelled : (text : List ℕ) (day : ℕ) → day_spelled text ≡ Some day → text ≡ day_text day
day_text-day_spelled text day e = (text-day_spelled text day e).1

-- a date that is misspelt, or not later than the first day of the period before
pub begins-misspelt : (c : CalendarTerms) (period : ℕ) (text : List ℕ) → day_spelled text ≡ None → begins c period text ≡ Err BadDate
unfolding begins
begins-misspelt c period text e = ap (begun_on c period) e

pub begins-early : (c : CalendarTerms) (period : ℕ) (text : List ℕ) (day : ℕ) → day_spelled text ≡ Some day → day ≤ first_day c (period - 1)
    → begins c period text ≡ Err BadDate
unfolding begins
begins-early c period text day e early =
    ap (begun_on c period) e ∙ cond-false (nat_lt (first_day c (period - 1)) day) _ _ (le-ltb (first_day c (period - 1)) day early)

-- one that leaves no days for the last period
pub begins-late : (c : CalendarTerms) (period : ℕ) (text : List ℕ) (day : ℕ) → day_spelled text ≡ Some day → first_day c (period - 1) < day
    → last_date < last_day (begun_with c period day) → begins c period text ≡ Err PastEnd
unfolding begins
begins-late c period text day e rises late =
    ap (begun_on c period) e ∙ cond-true (nat_lt (first_day c (period - 1)) day) _ _ (lt-ltb (first_day c (period - 1)) day rises)
    ∙ cond-true (nat_lt last_date (last_day (begun_with c period day))) _ _ (lt-ltb last_date (last_day (begun_with c period day)) late)

-- and one that is taken
pub begins-taken : (c : CalendarTerms) (period : ℕ) (text : List ℕ) (day : ℕ) → day_spelled text ≡ Some day → first_day c (period - 1) < day
    → last_day (begun_with c period day) ≤ last_date → begins c period text ≡ Ok (begun_with c period day)
unfolding begins
begins-taken c period text day e rises until =
    ap (begun_on c period) e ∙ cond-true (nat_lt (first_day c (period - 1)) day) _ _ (lt-ltb (first_day c (period - 1)) day rises)
    ∙ cond-false (nat_lt last_date (last_day (begun_with c period day))) _ _ (le-ltb last_date (last_day (begun_with c period day)) until)

-- what is true of a calendar after a period's first day was given
pub record IsBegun (c : CalendarTerms) (period : ℕ) (text : List ℕ) (d : CalendarTerms) (day : ℕ) : Type 0 where
  pub spelled : day_spelled text ≡ Some day
  pub is : d ≡ begun_with c period day
  pub first : d.first ≡ c.first
  pub days : d.days ≡ c.days
  pub periods : d.periods ≡ c.periods
  pub begun : d.begun ≡ c.begun ++ record { period = period; day = day } ∷ []
  pub rises : first_day c (period - 1) < day
  pub until : last_day (begun_with c period day) ≤ last_date

tested : (c : CalendarTerms) (period day : ℕ) (d : CalendarTerms) (text : List ℕ) → day_spelled text ≡ Some day → (rises past : Bool)
    → nat_lt (first_day c (period - 1)) day ≡ rises → nat_lt last_date (last_day (begun_with c period day)) ≡ past
    → cond rises (cond past (Err PastEnd) (Ok (begun_with c period day))) (Err BadDate) ≡ Ok d → IsBegun c period text d day
tested c period day d text spelled true false rises until e =
    let is : d ≡ begun_with c period day = cc in
    record {
      spelled = spelled;
      is = is;
      first = ap (λ x. x.first) is;
      days = ap (λ x. x.days) is;
      periods = ap (λ x. x.periods) is;
      begun = ap (λ x. x.begun) is;
      rises = ltb-true _ _ rises;
      until = ltb-false _ _ until;
    }
tested c period day d text spelled true true rises until e = absurd cc
tested c period day d text spelled false past rises until e = absurd cc

begun_by : (c : CalendarTerms) (period : ℕ) (d : CalendarTerms) (o : Option ℕ) (text : List ℕ) → day_spelled text ≡ o → begun_on c period o ≡ Ok d
    → (day : ℕ) × IsBegun c period text d day
begun_by c period d None text spelled e = absurd cc
begun_by c period d (Some day) text spelled e =
    (day, tested c period day d text spelled (nat_lt (first_day c (period - 1)) day) (nat_lt last_date (last_day (begun_with c period day))) refl refl e)

pub begun-is : (c : CalendarTerms) (period : ℕ) (text : List ℕ) (d : CalendarTerms) → begins c period text ≡ Ok d
    → (day : ℕ) × IsBegun c period text d day
unfolding begins
begun-is c period text d e = begun_by c period d (day_spelled text) text refl e

-- the last day where one more first day is given
pub last_day-more : (c : CalendarTerms) (period day : ℕ) → IsCalendar c → latest_begun c < period → period < c.periods
    → last_day (begun_with c period day) ≡ day + (c.periods - period) * c.days - 1
last_day-more c period day h later within =
    ap (λ n. n - 1)
    (day_since-more c.days c.periods 0 c.first c.begun (record { period = period; day = day }) c.periods h.begun later (omega arith))

-- so it is a calendar
pub is_calendar-begun : (c : CalendarTerms) (period day : ℕ) → IsCalendar c → latest_begun c < period → period < c.periods → first_day c (period - 1) < day
    → day + (c.periods - period) * c.days ≤ last_date + 1 → IsCalendar (begun_with c period day)
is_calendar-begun c period day h later within rises ends = record {
  length = h.length;
  periods = h.periods;
  begun = are_begun-more c.days c.periods 0 c.first c.begun (record { period = period; day = day }) h.begun later within rises ends;
}

pub begun-begins : (c : CalendarTerms) (period : ℕ) (text : List ℕ) (d : CalendarTerms) → IsCalendar c → latest_begun c < period → period < c.periods
    → begins c period text ≡ Ok d → IsCalendar d
begun-begins c period text d h later within e =
    let b = begun-is c period text d e in
    let until = b.1.until in
    let last = last_day-more c period b.0 h later within in
    subst IsCalendar (sym b.1.is) (is_calendar-begun c period b.0 h later within b.1.rises (omega (arith, until, last)))

-- the same calendar with other periods whose first days are given
abbrev pub with_begun : CalendarTerms → List Begun → CalendarTerms
with_begun c bs = record c { begun = bs }

-- a calendar before one of its first days was given, and that it comes of it
pub record IsBefore (c : CalendarTerms) (earlier : List Begun) (b : Begun) : Type 0 where
  pub calendar : IsCalendar (with_begun c earlier)
  pub later : latest_begun (with_begun c earlier) < b.period
  pub within : b.period < c.periods
  pub by : b.day ≤ last_date
  pub begins : begins (with_begun c earlier) b.period (day_text b.day) ≡ Ok (with_begun c (earlier ++ b ∷ []))

pub begun-before : (c : CalendarTerms) (earlier : List Begun) (b : Begun) (later : List Begun) → IsCalendar c → c.begun ≡ earlier ++ b ∷ later
    → IsBefore c earlier b
begun-before c earlier b later h e =
    let f = are_begun-front c.days c.periods 0 c.first earlier b later (rw (← e) h.begun) in
    let before : IsCalendar (with_begun c earlier) = record { length = h.length; periods = h.periods; begun = f.begun } in
    let some : 1 ≤ c.periods - b.period = omega (arith, f.within) in
    let by : b.day ≤ last_date = omega (arith, f.ends, h.length.0, mul-le-mul_right c.days some) in
    let last = last_day-more (with_begun c earlier) b.period b.day before f.later f.within in
    record {
      calendar = before;
      later = f.later;
      within = f.within;
      by = by;
      begins = begins-taken (with_begun c earlier) b.period (day_text b.day) b.day (day_spelled-day_text b.day by) f.rises (omega (arith, last, f.ends));
    }

-- each first day that is given is one of a period of the calendar, so they are so many at most
pub latest-below : (c : CalendarTerms) → IsCalendar c → latest_begun c < c.periods
latest-below c h = latest-within c.days c.periods 0 c.first c.begun h.periods.0 h.begun

pub begun-few : (c : CalendarTerms) → IsCalendar c → length c.begun ≤ c.periods - 1
begun-few c h = omega (arith, latest-counts c.days c.periods 0 c.first c.begun h.begun, latest-below c h)

-- and each period begins by the last date, after those before it
pub first_day-by : (c : CalendarTerms) → IsCalendar c → (t : ℕ) → t < c.periods → first_day c t ≤ last_date
first_day-by c h t lt = omega (arith, h.length.0, day_since-ends c.days c.periods 0 c.first c.begun t h.begun (omega arith) lt)

pub first_day-rises : (c : CalendarTerms) → IsCalendar c → (t u : ℕ) → t < u → u < c.periods → first_day c t < first_day c u
first_day-rises c h t u lt within = day_since-rises c.days c.periods 0 c.first c.begun t u h.begun h.length.0 (omega arith) lt

-- the same by a number
pub day-until : (c : CalendarTerms) → IsCalendar c → (t n : ℕ) → t < c.periods → n ≡ first_day c t → n ≤ 84005
day-until c h t n lt e = omega (arith, e, first_day-by c h t lt, last_date-is)

-- the last period whose first day is given, by its place in the list
latest_at : (since : ℕ) (b : Begun) (rest : List Begun) (d : Begun) → (get_or (b ∷ rest) (length rest) d).period ≡ latest_of since (b ∷ rest)
latest_at since b [] d = refl
latest_at since b (e ∷ more) d = latest_at b.period e more d

pub latest_last : (bs : List Begun) (b : Begun) → slice_get bs (length bs - 1) ≡ Some b → b.period ≡ latest_of 0 bs
latest_last [] b e = absurd cc
latest_last (a ∷ rest) b e =
    let less : length (a ∷ rest) - 1 ≡ length rest = omega arith in
    let here : get_or (a ∷ rest) (length rest) b ≡ b = get_or_from_slice_get (a ∷ rest) (length rest) b b (ap (slice_get (a ∷ rest)) (sym less) ∙ e) in
    ap (λ (x : Begun). x.period) (sym here) ∙ latest_at 0 a rest b

-- an array has room for one more first day
pub room : (c : CalendarTerms) (period given : ℕ) (array : List Begun) → IsCalendar c → latest_begun c < period → period < c.periods
    → take given array ≡ c.begun → given ≤ length array → given < 519
room c period given array h later within e fits =
    let longest : c.periods ≤ 520 = h.periods.1 in
    let long : length (take given array) ≡ given = length-take-le given array fits in
    let same : length (take given array) ≡ length c.begun = ap length e in
    omega (arith, longest, long, same, later, within, latest-counts c.days c.periods 0 c.first c.begun h.begun)

-- the tests as numbers: a last period that ends after the last date
pub late : (c : CalendarTerms) (period day periods days : ℕ) → IsCalendar c → latest_begun c < period → period < c.periods → periods ≡ c.periods
    → days ≡ c.days → 84006 < day + (periods - period) * days → last_date < last_day (begun_with c period day)
late c period day periods days h later within e e₂ past =
    let over : 84006 < day + (c.periods - period) * c.days = subst (λ p. 84006 < day + (p - period) * c.days) e (subst (λ d. 84006 < day + (periods - period) * d) e₂ past) in
    omega (arith, over, last_day-more c period day h later within, last_date-is)

-- and one that does not, by the parts of the calendar
pub taken : (c : CalendarTerms) (period day periods days first : ℕ) (text : List ℕ) (bs : List Begun) → IsCalendar c → latest_begun c < period
    → period < c.periods → day_spelled text ≡ Some day → first_day c (period - 1) < day → first ≡ c.first → days ≡ c.days → periods ≡ c.periods
    → bs ≡ c.begun ++ record { period = period; day = day } ∷ [] → day + (periods - period) * days ≤ 84006
    → (begins c period text ≡ Ok (record { first = first; days = days; periods = periods; begun = bs }))
    × IsCalendar (record { first = first; days = days; periods = periods; begun = bs })
taken c period day periods days first text bs h later within spelled rises e e₂ e₃ e₄ by =
    let ends : day + (c.periods - period) * c.days ≤ 84006 = subst (λ p. day + (p - period) * c.days ≤ 84006) e₃ (subst (λ d. day + (periods - period) * d ≤ 84006) e₂ by) in
    let in_time : day + (c.periods - period) * c.days ≤ last_date + 1 = omega (arith, ends, last_date-is) in
    let until : last_day (begun_with c period day) ≤ last_date = omega (arith, ends, last_day-more c period day h later within, last_date-is) in
    let made : CalendarTerms = record { first = first; days = days; periods = periods; begun = bs } in
    let is : made ≡ begun_with c period day = rw (e, e₂, e₃, e₄) refl in (
      begins-taken c period text day spelled rises until ∙ ap Ok (sym is),
      subst IsCalendar (sym is) (is_calendar-begun c period day h later within rises in_time),
    )
