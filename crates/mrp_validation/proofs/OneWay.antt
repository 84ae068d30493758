-- Validation has one answer: rows are read one way, and their terms have one calendar or one fault.
use Rattle.std.proofs.Common.{◌≡◌, ◌≤◌, ℕ, List, [], ◌∷◌, Result, Ok, Err, pos, refl, sym, ap, ◌∙◌, subst, arith}
use Rattle.std.proofs.lemmas.Int.{ints}
use Rattle.mrp_cal.proofs.Days.{one_day}
use Rattle.mrp_cal.specs.declared.begun.Begun.{Begun}
use Rattle.mrp_cal.specs.Calendar.{CalendarTerms, IsCalendar, IsPeriodLength, last_date, last_day}
use Rattle.mrp_cal.specs.Made.{IsCalendarFrom, IsPastEnd}
use Rattle.mrp_cal.specs.declared.fault.CalFault.{CalFault}
use Rattle.mrp_cal.specs.declared.fault.CalFault.TheVariants as cal
use Rattle.mrp_master_data.specs.Table.{Table}
use Rattle.mrp_validation.specs.declared.fault.TableFault.{TableFault}
use Rattle.mrp_validation.specs.declared.fault.TableFaultKind.{TableFaultKind}
use Rattle.mrp_validation.specs.Grammar.{RunTerms}
use Rattle.mrp_validation.specs.Reading.{first_terms, IsCalendarOf, read_from, Reads, started, Starts, StartsWith}
use Rattle.mrp_qty.specs.declared.limits.LimitSet.{LimitSet}

-- ---- the calendar of a run

same_day : (a b : ℕ) → pos a ≡ pos b → a ≡ b
same_day a b e = omega (arith, ints, e)

same_parts : (f g d e p q : ℕ) (b c : List Begun) → f ≡ g → d ≡ e → p ≡ q → b ≡ c
    → ◌≡◌ {A = CalendarTerms} (record { first = f; days = d; periods = p; begun = b }) (record { first = g; days = e; periods = q; begun = c })
same_parts f g d e p q b c first days periods begun = rw (first, days, periods, begun) refl

-- two calendars of one text, one length and one count are one
same_terms : (text : List ℕ) (days periods : ℕ) (a b : CalendarTerms) → IsCalendarFrom text days periods a → IsCalendarFrom text days periods b → a ≡ b
same_terms text days periods a b h k =
    same_parts a.first b.first a.days b.days a.periods b.periods a.begun b.begun (same_day a.first b.first (one_day text (pos a.first) (pos b.first) h.first
    k.first)) (h.days ∙ sym k.days) (h.periods ∙ sym k.periods) (h.begun ∙ sym k.begun)

-- a calendar whose periods follow each other ends by the last date
ends_by : (c : CalendarTerms) → IsCalendar c → c.begun ≡ [] → last_day c ≤ last_date
ends_by c is none =
    let ends = rw none at is.begun in
    rw none (omega (arith, ends))

-- a calendar doesn't end after the last date
not_past : (text : List ℕ) (days periods : ℕ) (a b : CalendarTerms) → IsCalendarFrom text days periods a → IsCalendar a → IsPastEnd text days periods b → ⊥
not_past text days periods a b h is past =
    let ends : IsCalendar b = subst IsCalendar (same_terms text days periods a b h past.from) is in
    omega (arith, ends_by b ends past.from.begun, past.past)

has_length : (days : ℕ) (a : CalendarTerms) → a.days ≡ days → IsCalendar a → IsPeriodLength days
has_length days a same is = subst IsPeriodLength same is.length

-- terms have one calendar, or one fault
pub one_calendar : (t : RunTerms) (a b : Result CalendarTerms CalFault) → IsCalendarOf t a → IsCalendarOf t b → a ≡ b
one_calendar t (Ok c) (Ok d) h k = ap (λ (x : CalendarTerms). Ok x) (same_terms t.first t.days t.periods c d h.0 k.0)
one_calendar t (Ok c) (Err cal.BadDate) h k = absurd (k (c.first, h.0.first))
one_calendar t (Ok c) (Err cal.DaysOutOfRange) h k = absurd (k.1 (has_length t.days c h.0.days h.1))
one_calendar t (Ok c) (Err cal.PastEnd) h k = absurd (not_past t.first t.days t.periods c k.1.0 h.0 h.1 k.1.1)
one_calendar t (Err cal.BadDate) (Ok d) h k = absurd (h (d.first, k.0.first))
one_calendar t (Err cal.DaysOutOfRange) (Ok d) h k = absurd (h.1 (has_length t.days d k.0.days k.1))
one_calendar t (Err cal.PastEnd) (Ok d) h k = absurd (not_past t.first t.days t.periods d h.1.0 k.0 k.1 h.1.1)
one_calendar t (Err cal.BadDate) (Err cal.BadDate) h k = refl
one_calendar t (Err cal.BadDate) (Err cal.DaysOutOfRange) h k = absurd (h k.0)
one_calendar t (Err cal.BadDate) (Err cal.PastEnd) h k = absurd (h (k.1.0.first, k.1.1.from.first))
one_calendar t (Err cal.DaysOutOfRange) (Err cal.BadDate) h k = absurd (k h.0)
one_calendar t (Err cal.DaysOutOfRange) (Err cal.DaysOutOfRange) h k = refl
one_calendar t (Err cal.DaysOutOfRange) (Err cal.PastEnd) h k = absurd (h.1 k.0)
one_calendar t (Err cal.PastEnd) (Err cal.BadDate) h k = absurd (k (h.1.0.first, h.1.1.from.first))
one_calendar t (Err cal.PastEnd) (Err cal.DaysOutOfRange) h k = absurd (k.1 h.0)
one_calendar t (Err cal.PastEnd) (Err cal.PastEnd) h k = refl

-- ---- the rows

one_start : (limits : LimitSet) (terms : Result RunTerms TableFaultKind) (a b : Result Table TableFaultKind) → StartsWith limits terms a
    → StartsWith limits terms b → a ≡ b
one_start limits (Ok t) a b h k = h.2 ∙ ap (started limits) (one_calendar t h.0 k.0 h.1 k.1) ∙ sym k.2
one_start limits (Err e) a b h k = h ∙ sym k

-- a first row makes one table, or has one fault
pub starts_one_way : (limits : LimitSet) (row : List (List ℕ)) (a b : Result Table TableFaultKind) → Starts limits row a → Starts limits row b → a ≡ b
starts_one_way limits row a b h k = one_start limits (first_terms limits row) a b h k

-- rows make one table, or have one fault
pub reads_one_way : (limits : LimitSet) (rows : List (List (List ℕ))) (a b : Result Table TableFault) → Reads limits rows a → Reads limits rows b → a ≡ b
reads_one_way limits [] a b h k = h ∙ sym k
reads_one_way limits (row ∷ rows) a b h k =
    h.2 ∙ ap (λ (start : Result Table TableFaultKind). read_from start rows) (starts_one_way limits row h.0 k.0 h.1 k.1) ∙ sym k.2
