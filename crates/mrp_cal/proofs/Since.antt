-- The calendar: the days on which its periods begin, where first days are given in rising order.
use Rattle.std.proofs.Common.{◌≡◌, ◌≢◌, ℕ, zero, suc, ◌+◌, ◌-◌, ◌*◌, ◌<◌, ◌≤◌, nat_lt, List, [], ◌∷◌, ◌++◌, length, drop, get_or, drop-cons, ⊎_elim, refl, sym, ap, ◌∙◌, arith}
use Rattle.std.proofs.lemmas.Bool.{cases_lt, cond-true, cond-false, lt-ltb, le-ltb}
use Rattle.std.proofs.Math.Nat.{mul-le-mul_right}
use Rattle.mrp_cal.specs.declared.begun.Begun.{Begun}
use Rattle.mrp_cal.specs.Begins.{latest_of}
use Rattle.std.proofs.lemmas.List.{drop_all}
use Rattle.mrp_cal.specs.Calendar.{AreBegun, CalendarTerms, day_since, first_day, EndsInTime, last_date}

-- before the next period whose first day is given the days follow each other, and from it on they follow from it
pub day_since-before : (days since day : ℕ) (b : Begun) (later : List Begun) (t : ℕ) → t < b.period
    → day_since days since day (b ∷ later) t ≡ day + (t - since) * days
day_since-before days since day b later t h = cond-true (nat_lt t b.period) _ _ (lt-ltb t b.period h)

pub day_since-from : (days since day : ℕ) (b : Begun) (later : List Begun) (t : ℕ) → b.period ≤ t
    → day_since days since day (b ∷ later) t ≡ day_since days b.period b.day later t
day_since-from days since day b later t h = cond-false (nat_lt t b.period) _ _ (le-ltb t b.period h)

pub ends_of : (days periods since day : ℕ) (bs : List Begun) → AreBegun days periods since day bs → EndsInTime days periods since day
ends_of days periods since day [] h = h
ends_of days periods since day (b ∷ later) h = h.0

-- each period whose first day is given is at least one later than the one before
pub latest-counts : (days periods since day : ℕ) (bs : List Begun) → AreBegun days periods since day bs → since + length bs ≤ latest_of since bs
latest-counts days periods since day [] h = omega arith
latest-counts days periods since day (b ∷ later) h = omega (arith, h.1, latest-counts days periods b.period b.day later h.4)

pub latest-within : (days periods since day : ℕ) (bs : List Begun) → since < periods → AreBegun days periods since day bs → latest_of since bs < periods
latest-within days periods since day [] lt h = lt
latest-within days periods since day (b ∷ later) lt h = latest-within days periods b.period b.day later h.2 h.4

steps : (a b days : ℕ) → a < b → a * days + days ≤ b * days
steps a b days lt =
    let more : a + 1 ≤ b = omega arith in
    omega (arith, mul-le-mul_right days more)

-- no period begins before the one that the days are counted from
pub day_since-least : (days periods since day : ℕ) (bs : List Begun) (t : ℕ) → AreBegun days periods since day bs → since ≤ t
    → day ≤ day_since days since day bs t
day_since-least days periods since day [] t h from = omega arith
day_since-least days periods since day (b ∷ later) t h from =
    ⊎_elim
    (λ (before : t < b.period). rw (day_since-before days since day b later t before) (omega arith))
    (λ (after : b.period ≤ t).
    rw (day_since-from days since day b later t after)
    (omega (arith, h.3, day_since-least days periods b.period b.day later t h.4 after)))
    (cases_lt t b.period)

-- each period begins after those before it
pub day_since-rises : (days periods since day : ℕ) (bs : List Begun) (t u : ℕ) → AreBegun days periods since day bs → 1 ≤ days → since ≤ t → t < u
    → day_since days since day bs t < day_since days since day bs u
day_since-rises days periods since day [] t u h some from lt =
    let later : t - since < u - since = omega arith in
    omega (arith, some, steps _ _ days later)
day_since-rises days periods since day (b ∷ later) t u h some from lt =
    ⊎_elim
    (λ (before : t < b.period).
    rw (day_since-before days since day b later t before)
    (⊎_elim
    (λ (both : u < b.period).
    let more : t - since < u - since = omega arith in
    rw (day_since-before days since day b later u both) (omega (arith, some, steps _ _ days more)))
    (λ (over : b.period ≤ u).
    let fewer : t - since ≤ b.period - 1 - since = omega arith in
    rw (day_since-from days since day b later u over)
    (omega (arith, h.3, mul-le-mul_right days fewer, day_since-least days periods b.period b.day later u h.4 over)))
    (cases_lt u b.period)))
    (λ (after : b.period ≤ t).
    let over : b.period ≤ u = omega arith in
    rw (day_since-from days since day b later t after, day_since-from days since day b later u over)
    (day_since-rises days periods b.period b.day later t u h.4 some after lt))
    (cases_lt t b.period)

-- and ends by the last date
pub day_since-ends : (days periods since day : ℕ) (bs : List Begun) (t : ℕ) → AreBegun days periods since day bs → since ≤ t → t < periods
    → day_since days since day bs t + days ≤ last_date + 1
day_since-ends days periods since day [] t h from lt =
    let more : t - since < periods - since = omega arith in
    omega (arith, h, steps _ _ days more)
day_since-ends days periods since day (b ∷ later) t h from lt =
    ⊎_elim
    (λ (before : t < b.period).
    let more : t - since < periods - since = omega arith in
    rw (day_since-before days since day b later t before) (omega (arith, h.0, steps _ _ days more)))
    (λ (after : b.period ≤ t). rw (day_since-from days since day b later t after) (day_since-ends days periods b.period b.day later t h.4 after lt))
    (cases_lt t b.period)

-- one more period whose first day is given: from it on the days follow from it
pub day_since-more : (days periods since day : ℕ) (bs : List Begun) (b : Begun) (t : ℕ) → AreBegun days periods since day bs
    → latest_of since bs < b.period → b.period ≤ t → day_since days since day (bs ++ b ∷ []) t ≡ b.day + (t - b.period) * days
day_since-more days periods since day [] b t h lt from = day_since-from days since day b [] t from
day_since-more days periods since day (e ∷ later) b t h lt from =
    let counts = latest-counts days periods e.period e.day later h.4 in
    let after : e.period ≤ t = omega (arith, lt, counts, from) in
    day_since-from days since day e (later ++ b ∷ []) t after ∙ day_since-more days periods e.period e.day later b t h.4 lt from

pub are_begun-more : (days periods since day : ℕ) (bs : List Begun) (b : Begun) → AreBegun days periods since day bs → latest_of since bs < b.period
    → b.period < periods → day_since days since day bs (b.period - 1) < b.day → EndsInTime days periods b.period b.day
    → AreBegun days periods since day (bs ++ b ∷ [])
are_begun-more days periods since day [] b h lt within rises ends = (h, lt, within, rises, ends)
are_begun-more days periods since day (e ∷ later) b h lt within rises ends =
    let counts = latest-counts days periods e.period e.day later h.4 in
    let after : e.period ≤ b.period - 1 = omega (arith, lt, counts) in
    let from : day_since days e.period e.day later (b.period - 1) < b.day =
    rw (← day_since-from days since day e later (b.period - 1) after) rises in
    (h.0, h.1, h.2, h.3, are_begun-more days periods e.period e.day later b h.4 lt within from ends)

-- what is known of a period whose first day is given, and of those before it
pub record IsFront (days periods since day : ℕ) (earlier : List Begun) (b : Begun) : Type 0 where
  pub begun : AreBegun days periods since day earlier
  pub later : latest_of since earlier < b.period
  pub within : b.period < periods
  pub rises : day_since days since day earlier (b.period - 1) < b.day
  pub ends : EndsInTime days periods b.period b.day

pub are_begun-front : (days periods since day : ℕ) (earlier : List Begun) (b : Begun) (later : List Begun)
    → AreBegun days periods since day (earlier ++ b ∷ later) → IsFront days periods since day earlier b
are_begun-front days periods since day [] b later h =
    record { begun = h.0; later = h.1; within = h.2; rises = h.3; ends = ends_of days periods b.period b.day later h.4 }
are_begun-front days periods since day (e ∷ more) b later h =
    let r = are_begun-front days periods e.period e.day more b later h.4 in
    let counts = latest-counts days periods e.period e.day more r.begun in
    let after : e.period ≤ b.period - 1 = omega (arith, r.later, counts) in
    record {
      begun = (h.0, h.1, h.2, h.3, r.begun);
      later = r.later;
      within = r.within;
      rises = rw (day_since-from days since day e more (b.period - 1) after) r.rises;
      ends = r.ends;
    }

-- the search from the first period on, as far as it has come
pub since-init : (c : CalendarTerms) (first : ℕ) (items : List Begun) (t : ℕ) → first ≡ c.first → items ≡ c.begun
    → first_day c t ≡ day_since c.days 0 first (drop 0 items) t
since-init c first items t e e₂ = rw (e, e₂) refl

next_is : (bs : List Begun) (i : ℕ) (d : Begun) → i < length bs → drop i bs ≡ get_or bs i d ∷ drop (i + 1) bs
next_is bs i d lt =
    let one : suc i ≡ i + 1 = omega arith in
    drop-cons bs i d lt ∙ ap (λ k. get_or bs i d ∷ drop k bs) one

pub since-before : (days since day : ℕ) (bs : List Begun) (i t : ℕ) (d : Begun) → i < length bs → t < (get_or bs i d).period
    → day_since days since day (drop i bs) t ≡ day + (t - since) * days
since-before days since day bs i t d lt before =
    ap (λ xs. day_since days since day xs t) (next_is bs i d lt) ∙ day_since-before days since day (get_or bs i d) (drop (i + 1) bs) t before

pub since-next : (days since day : ℕ) (bs : List Begun) (i t : ℕ) (d : Begun) → i < length bs → (get_or bs i d).period ≤ t
    → day_since days since day (drop i bs) t ≡ day_since days (get_or bs i d).period (get_or bs i d).day (drop (i + 1) bs) t
since-next days since day bs i t d lt from =
    ap (λ xs. day_since days since day xs t) (next_is bs i d lt) ∙ day_since-from days since day (get_or bs i d) (drop (i + 1) bs) t from

pub since-end : (days since day : ℕ) (bs : List Begun) (i t : ℕ) → length bs ≤ i → day_since days since day (drop i bs) t ≡ day + (t - since) * days
since-end days since day bs i t past = ap (λ xs. day_since days since day xs t) (drop_all i bs past)

-- the period that the days are counted from begins on their first day
at_once : (day days since : ℕ) → day + (since - since) * days ≡ day
at_once day days since =
    let none : since - since ≡ 0 = omega arith in
    ap (λ n. day + n * days) none ∙ omega arith

pub day_since-start : (days periods since day : ℕ) (bs : List Begun) → AreBegun days periods since day bs → day_since days since day bs since ≡ day
day_since-start days periods since day [] h = at_once day days since
day_since-start days periods since day (b ∷ later) h = day_since-before days since day b later since h.1 ∙ at_once day days since

-- first days are given of later periods alone
given-later : (days periods since day : ℕ) (bs : List Begun) (k : ℕ) (d : Begun) → k < length bs → AreBegun days periods since day bs
    → since < (get_or bs k d).period
given-later days periods since day [] k d lt h = absurd (omega (arith, lt))
given-later days periods since day (b ∷ later) zero d lt h = h.1
given-later days periods since day (b ∷ later) (suc k) d lt h = omega (arith, h.1, given-later days periods b.period b.day later k d (omega (arith, lt)) h.4)

-- each period whose first day is given begins on it
pub day_since-given : (days periods since day : ℕ) (bs : List Begun) (k : ℕ) (d : Begun) → k < length bs → AreBegun days periods since day bs
    → day_since days since day bs (get_or bs k d).period ≡ (get_or bs k d).day
day_since-given days periods since day [] k d lt h = absurd (omega (arith, lt))
day_since-given days periods since day (b ∷ later) zero d lt h =
    day_since-from days since day b later b.period (omega arith) ∙ day_since-start days periods b.period b.day later h.4
day_since-given days periods since day (b ∷ later) (suc k) d lt h =
    let less : k < length later = omega (arith, lt) in
    let after = given-later days periods b.period b.day later k d less h.4 in
    day_since-from days since day b later (get_or later k d).period (omega (arith, after)) ∙ day_since-given days periods b.period b.day later k d less h.4

not_next : (p t : ℕ) → p ≤ t + 1 → p ≢ t + 1 → p ≤ t
not_next p t by other = ⊎_elim (λ (less : p < t + 1). omega (arith, less)) (λ (more : t + 1 ≤ p). absurd (other (omega (arith, by, more)))) (cases_lt p (t + 1))

-- and each other one so many days after the one before it
pub day_since-follows : (days periods since day : ℕ) (bs : List Begun) (t : ℕ) → AreBegun days periods since day bs → since ≤ t
    → ((k : ℕ) (d : Begun) → k < length bs → (get_or bs k d).period ≢ t + 1)
    → day_since days since day bs (t + 1) ≡ day_since days since day bs t + days
day_since-follows days periods since day [] t h from others =
    let one : t + 1 - since ≡ (t - since) + 1 = omega (arith, from) in
    ap (λ n. day + n * days) one ∙ omega arith
day_since-follows days periods since day (b ∷ later) t h from others =
    ⊎_elim
    (λ (before : t + 1 < b.period).
    let one : t + 1 - since ≡ (t - since) + 1 = omega (arith, from) in
    let less : t < b.period = omega (arith, before) in
    day_since-before days since day b later (t + 1) before ∙ ap (λ n. day + n * days) one
    ∙ omega (arith, day_since-before days since day b later t less))
    (λ (after : b.period ≤ t + 1).
    let past : b.period ≤ t = not_next b.period t after (others 0 b (omega arith)) in
    day_since-from days since day b later (t + 1) after
    ∙ day_since-follows days periods b.period b.day later t h.4 past (λ k d lt. others (suc k) d (omega (arith, lt)))
    ∙ ap (λ n. n + days) (sym (day_since-from days since day b later t past)))
    (cases_lt (t + 1) b.period)

-- one more period whose first day is given leaves those before it as they were
pub day_since-earlier : (days since day : ℕ) (bs : List Begun) (b : Begun) (t : ℕ) → t < b.period
    → day_since days since day (bs ++ b ∷ []) t ≡ day_since days since day bs t
day_since-earlier days since day [] b t lt = day_since-before days since day b [] t lt
day_since-earlier days since day (e ∷ later) b t lt =
    ⊎_elim
    (λ (before : t < e.period).
    day_since-before days since day e (later ++ b ∷ []) t before ∙ sym (day_since-before days since day e later t before))
    (λ (after : e.period ≤ t).
    day_since-from days since day e (later ++ b ∷ []) t after ∙ day_since-earlier days e.period e.day later b t lt
    ∙ sym (day_since-from days since day e later t after))
    (cases_lt t e.period)
