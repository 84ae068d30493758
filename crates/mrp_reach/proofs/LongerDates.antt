-- Reach: the periods of a table begin on the same days in one that goes on where it ends.
use Rattle.std.proofs.Common.{◌≡◌, ℕ, zero, suc, ◌+◌, ◌-◌, ◌*◌, ◌<◌, ◌≤◌, nat_lt, Bool, true, false, if◌then◌else◌, List, [], ◌∷◌, filter, length, get_or, ⊎_elim, refl, sym, ap, ◌∙◌, arith}
use Rattle.std.proofs.lemmas.Bool.{cases_lt, cond-true, cond-false, lt-ltb, le-ltb}
use Rattle.mrp_cal.specs.declared.begun.Begun.{Begun}
use Rattle.mrp_cal.specs.Calendar.{AreBegun, CalendarTerms, day_since, first_day}
use Rattle.mrp_cal.proofs.Since.{day_since-before, day_since-from}
use Rattle.mrp_master_data.specs.Table.{Table, IsTable, horizon}
use Rattle.mrp_reach.specs.Lengthening.{Lengthens}

abbrev begins_below : ℕ → Begun → Bool
begins_below T b = nat_lt b.period T

-- first days that are given from a period on are none before it
none_below : (T days periods since day : ℕ) (bs : List Begun) → T ≤ since → AreBegun days periods since day bs → filter (begins_below T) bs ≡ []
none_below T days periods since day [] from begun = refl
none_below T days periods since day (b ∷ bs) from begun =
    let later : T ≤ b.period = omega (arith, from, begun.1) in
    cond-false (begins_below T b) (b ∷ filter (begins_below T) bs) (filter (begins_below T) bs) (le-ltb b.period T later)
    ∙ none_below T days periods b.period b.day bs later begun.4

-- before the T-th period the days are those without the first days that are given from it on
pub day_since-below : (T days periods since day : ℕ) (bs : List Begun) (t : ℕ) → t < T → AreBegun days periods since day bs
    → day_since days since day bs t ≡ day_since days since day (filter (begins_below T) bs) t
day_since-below T days periods since day [] t lt begun = refl
day_since-below T days periods since day (b ∷ bs) t lt begun =
    ⊎_elim
    (λ (kept : b.period < T).
    let same : filter (begins_below T) (b ∷ bs) ≡ b ∷ filter (begins_below T) bs =
    cond-true (begins_below T b) (b ∷ filter (begins_below T) bs) (filter (begins_below T) bs) (lt-ltb b.period T kept) in
    ⊎_elim
    (λ (before : t < b.period).
    day_since-before days since day b bs t before ∙ sym (day_since-before days since day b (filter (begins_below T) bs) t before))
    (λ (after : b.period ≤ t).
    day_since-from days since day b bs t after ∙ day_since-below T days periods b.period b.day bs t lt begun.4
    ∙ sym (day_since-from days since day b (filter (begins_below T) bs) t after))
    (cases_lt t b.period)
    ∙ ap (λ (xs : List Begun). day_since days since day xs t) (sym same))
    (λ (left : T ≤ b.period).
    let none : filter (begins_below T) (b ∷ bs) ≡ [] =
    cond-false (begins_below T b) (b ∷ filter (begins_below T) bs) (filter (begins_below T) bs) (le-ltb b.period T left)
    ∙ none_below T days periods b.period b.day bs left begun.4 in
    day_since-before days since day b bs t (omega (arith, lt, left)) ∙ ap (λ (xs : List Begun). day_since days since day xs t) (sym none))
    (cases_lt b.period T)

pub dates_stay : (N M : Table) → IsTable M → Lengthens N M → (t : ℕ) → t < horizon N → first_day M.calendar t ≡ first_day N.calendar t
dates_stay N M table longer t lt =
    let c : CalendarTerms = M.calendar in
    day_since-below (horizon N) c.days c.periods 0 c.first c.begun t lt table.read.calendar.begun
    ∙ ap (λ (bs : List Begun). day_since c.days 0 c.first bs t) longer.begun
    ∙ ap (λ (days : ℕ). day_since days 0 c.first N.calendar.begun t) longer.days
    ∙ ap (λ (first : ℕ). day_since N.calendar.days 0 first N.calendar.begun t) longer.first
