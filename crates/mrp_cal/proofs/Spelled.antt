-- The calendar: the day that a text spells, the first whose text it is, and the only one.
use Rattle.std.proofs.Common.{◌≡◌, ℕ, zero, suc, ◌+◌, ◌<◌, ◌≤◌, nat_lt, Bool, true, false, List, length, get_or, Option, Some, None, MatchOption, ℤ, pos, ◌<ℤ◌, ◌≤ℤ◌, refl, sym, ap, ◌∙◌, subst, arith}
use Rattle.std.proofs.lemmas.Bool.{cond-true, lt-ltb, ltb-true}
use Rattle.std.proofs.lemmas.Bool.Decides.{not_from_Decides}
use Rattle.std.proofs.lemmas.List.FromFn.{get_or-range_with_len, length-range_with_len}
use Rattle.std.proofs.lemmas.List.Quantifiers.{position-Some}
use Rattle.std.proofs.lemmas.List.Sums.{position_or_len_is}
use Rattle.std.proofs.lemmas.Slice.Eq.{bytes_eq-Decides}
use Rattle.std.specs.List.{position, position_or_len, range_with_len}
use Rattle.std.specs.Str.{bytes_eq}
use Rattle.jiff.specs.Types.{Date}
use Rattle.jiff.specs.Words.{epoch_day}
use Rattle.jiff.proofs.SpanFacts.{signed_arith}
use Rattle.mrp_cal.specs.Begins.{all_days, day_spelled}
use Rattle.mrp_cal.specs.DateText.{IsDateText, SpellsDay}
use Rattle.mrp_cal.specs.Days.{day_text}
use Rattle.mrp_cal.proofs.Days.{has_text, one_day, spells_day}
use Rattle.mrp_cal.proofs.Written.{day_is_written}

abbrev is_text_of : List ℕ → ℕ → Bool
is_text_of text day = bytes_eq text (day_text day)

all_days-is : all_days ≡ 2932897
unfolding all_days
all_days-is = refl

not_true : (b : Bool) → (b ≡ true → ⊥) → b ≡ false
not_true false h = refl
not_true true h = absurd (h refl)

zero_more : (d : ℕ) → 0 + d ≡ d
zero_more d = omega arith

-- the first of so many days whose text it is
spelled_in : (n : ℕ) (text : List ℕ) (day : ℕ) → position (is_text_of text) (range_with_len 0 n) ≡ Some day → (day < n) × (text ≡ day_text day)
spelled_in n text day e =
    let found = position-Some (is_text_of text) (range_with_len 0 n) day 0 e in
    let lt : day < n = omega (arith, found.0, length-range_with_len 0 n) in
    let here : get_or (range_with_len 0 n) day 0 ≡ day = get_or-range_with_len 0 n day 0 lt ∙ zero_more day in
    (lt, (bytes_eq-Decides text (day_text day)).0 (ap (is_text_of text) (sym here) ∙ found.1))

-- two days have two texts
same_day : (a b : ℕ) → a ≤ 2932896 → b ≤ 2932896 → day_text a ≡ day_text b → a ≡ b
same_day a b ha hb e =
    let other : SpellsDay (day_text b) (pos a) = rw (← e) (spells_day a ha) in
    let same = one_day (day_text b) (pos a) (pos b) other (spells_day b hb) in
    omega (arith, signed_arith, same)

not_text : (day k : ℕ) → day ≤ 2932896 → k < day → is_text_of (day_text day) k ≡ false
not_text day k h lt =
    not_true (is_text_of (day_text day) k)
    (λ e.
    let same = same_day day k h (omega arith) ((bytes_eq-Decides (day_text day) (day_text k)).0 e) in
    omega (arith, same, lt))

spelled_at : (n day : ℕ) → n ≡ 2932897 → day < n → position (is_text_of (day_text day)) (range_with_len 0 n) ≡ Some day
spelled_at n day whole lt =
    let by : day ≤ 2932896 = omega (arith, whole, lt) in
    let text = is_text_of (day_text day) in
    let list = range_with_len 0 n in
    let long : length list ≡ n = length-range_with_len 0 n in
    let at : (k : ℕ) → k < n → get_or list k 0 ≡ k = λ k h. get_or-range_with_len 0 n k 0 h ∙ zero_more k in
    let first : position_or_len text list ≡ day =
    position_or_len_is text list day 0 (omega (arith, long, lt))
    (λ k h. ap text (at k (omega (arith, h, lt))) ∙ not_text day k by h)
    (λ _. ap text (at day lt) ∙ (bytes_eq-Decides (day_text day) (day_text day)).1 refl) in
    let within : nat_lt (position_or_len text list) (length list) ≡ true = lt-ltb _ _ (omega (arith, first, long, lt)) in
    cond-true (nat_lt (position_or_len text list) (length list)) (Some (position_or_len text list)) None within ∙ ap Some first

-- the text of a day spells it
pub day_spelled-text : (day : ℕ) → day ≤ 2932896 → day_spelled (day_text day) ≡ Some day
unfolding day_spelled
day_spelled-text day by = spelled_at all_days day all_days-is (omega (arith, by, all_days-is))

-- and what spells a day is its text
pub text-day_spelled : (text : List ℕ) (day : ℕ) → day_spelled text ≡ Some day → (day ≤ 2932896) × (text ≡ day_text day)
unfolding day_spelled
text-day_spelled text day e =
    let found = spelled_in all_days text day e in
    (omega (arith, found.0, all_days-is), found.1)

-- where a text spells a day from 1970-01-01 on, it is that one
pub day_spelled-spells : (text : List ℕ) (date : Date) (day : ℕ) → IsDateText text date → epoch_day date ≡ pos day → day_spelled text ≡ Some day
day_spelled-spells text date day h number =
    ap day_spelled (day_is_written text day (date, h, number)) ∙ day_spelled-text day (has_text date day number)

none_by : (o : Option ℕ) → ((n : ℕ) → o ≡ Some n → ⊥) → o ≡ None
none_by None h = refl
none_by (Some n) h = absurd (h n refl)

-- and where it spells none, it is none
pub day_spelled-none : (text : List ℕ) → ((n : ℕ) → ¬ (SpellsDay text (pos n))) → day_spelled text ≡ None
day_spelled-none text h =
    none_by (day_spelled text)
    (λ n e.
    let found = text-day_spelled text n e in
    h n (rw found.1 (spells_day n found.0)))

-- as a date before 1970-01-01
pub day_spelled-before : (text : List ℕ) (date : Date) → IsDateText text date → epoch_day date <ℤ pos 0 → day_spelled text ≡ None
day_spelled-before text date h before =
    day_spelled-none text
    (λ n spells.
    let same = one_day text (epoch_day date) (pos n) (date, h, refl) spells in
    omega (arith, signed_arith, same, before))

-- the same of the bytes of a text
pub day_spelled-misspelt : (bytes text : List ℕ) → bytes ≡ text → ((date : Date) → IsDateText bytes date → ⊥) → None ≡ day_spelled text
day_spelled-misspelt bytes text e h =
    sym (day_spelled-none bytes (λ n spells. h spells.0 spells.1)) ∙ ap day_spelled e

number_of : (text : List ℕ) (date : Date) (o : Option ℕ) → IsDateText text date → MatchOption o (epoch_day date <ℤ pos 0) (λ n. epoch_day date ≡ pos n)
    → o ≡ day_spelled text
number_of text date None h before = sym (day_spelled-before text date h before)
number_of text date (Some n) h number = sym (day_spelled-spells text date n h number)

pub day_spelled-number : (bytes text : List ℕ) (date : Date) (o : Option ℕ) → bytes ≡ text → IsDateText bytes date
    → MatchOption o (epoch_day date <ℤ pos 0) (λ n. epoch_day date ≡ pos n) → o ≡ day_spelled text
day_spelled-number bytes text date o e h number = number_of bytes date o h number ∙ ap day_spelled e
