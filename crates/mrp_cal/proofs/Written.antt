-- The calendar: a day from 1970-01-01 on has one text.
use Rattle.std.proofs.Common.{◌≡◌, ℕ, ◌+◌, ◌-◌, ◌*◌, ◌/◌, ◌%◌, List, [], ◌∷◌, pos, unsigned_abs, refl, ap, sym, ◌∙◌, arith}
use Rattle.jiff.specs.Words.{epoch_day}
use Rattle.mrp_cal.specs.DateText.{day_of, HasDateShape, IsDigit, month_of, SpellsDay, year_of}
use Rattle.mrp_cal.specs.Days.{date_text}
use Rattle.mrp_cal.specs.Days.{day_text}
use Rattle.mrp_cal.proofs.Days.{date_text-day_text}

-- the digits of a number of two or four digits
first_of_two : (a b : ℕ) → IsDigit a → IsDigit b → a ≡ 48 + (10 * (a - 48) + (b - 48)) / 10
first_of_two a b ha hb = omega (arith, ha.0, ha.1, hb.0, hb.1)

last_of_two : (a b : ℕ) → IsDigit a → IsDigit b → b ≡ 48 + (10 * (a - 48) + (b - 48)) % 10
last_of_two a b ha hb = omega (arith, ha.0, ha.1, hb.0, hb.1)

abbrev of_four : ℕ → ℕ → ℕ → ℕ → ℕ
of_four a b c d = 1000 * (a - 48) + 100 * (b - 48) + 10 * (c - 48) + (d - 48)

first_of_four : (a b c d : ℕ) → IsDigit a → IsDigit b → IsDigit c → IsDigit d → a ≡ 48 + of_four a b c d / 1000
first_of_four a b c d ha hb hc hd = omega (arith, ha.0, ha.1, hb.0, hb.1, hc.0, hc.1, hd.0, hd.1)

second_of_four : (a b c d : ℕ) → IsDigit a → IsDigit b → IsDigit c → IsDigit d → b ≡ 48 + of_four a b c d / 100 % 10
second_of_four a b c d ha hb hc hd = omega (arith, ha.0, ha.1, hb.0, hb.1, hc.0, hc.1, hd.0, hd.1)

third_of_four : (a b c d : ℕ) → IsDigit a → IsDigit b → IsDigit c → IsDigit d → c ≡ 48 + of_four a b c d / 10 % 10
third_of_four a b c d ha hb hc hd = omega (arith, ha.0, ha.1, hb.0, hb.1, hc.0, hc.1, hd.0, hd.1)

last_of_four : (a b c d : ℕ) → IsDigit a → IsDigit b → IsDigit c → IsDigit d → d ≡ 48 + of_four a b c d % 10
last_of_four a b c d ha hb hc hd = omega (arith, ha.0, ha.1, hb.0, hb.1, hc.0, hc.1, hd.0, hd.1)

ten_same : (a b c d e f g h i j a' b' c' d' e' f' g' h' i' j' : ℕ) → a ≡ a' → b ≡ b' → c ≡ c' → d ≡ d' → e ≡ e' → f ≡ f' → g ≡ g' → h ≡ h' → i ≡ i' → j ≡ j'
    → ◌≡◌ {A = List ℕ} (a ∷ b ∷ c ∷ d ∷ e ∷ f ∷ g ∷ h ∷ i ∷ j ∷ []) (a' ∷ b' ∷ c' ∷ d' ∷ e' ∷ f' ∷ g' ∷ h' ∷ i' ∷ j' ∷ [])
ten_same a b c d e f g h i j a' b' c' d' e' f' g' h' i' j' ea eb ec ed ee ef eg eh ei ej = cc

-- a text of the shape of a date is the text of its year, month and day
shaped : (text : List ℕ) → HasDateShape text → text ≡ date_text (year_of text) (month_of text) (day_of text)
shaped (a ∷ b ∷ c ∷ d ∷ e ∷ f ∷ g ∷ h ∷ i ∷ j ∷ []) s =
    let y = s.year in
    ten_same _ _ _ _ _ _ _ _ _ _ _ _ _ _ _ _ _ _ _ _ (first_of_four a b c d y.0 y.1 y.2 y.3) (second_of_four a b c d y.0 y.1 y.2 y.3)
    (third_of_four a b c d y.0 y.1 y.2 y.3) (last_of_four a b c d y.0 y.1 y.2 y.3)
    s.dash (first_of_two f g s.month.0 s.month.1) (last_of_two f g s.month.0 s.month.1) s.second_dash (first_of_two i j s.day.0 s.day.1)
    (last_of_two i j s.day.0 s.day.1)
shaped (a ∷ b ∷ c ∷ d ∷ e ∷ f ∷ g ∷ h ∷ i ∷ j ∷ k ∷ rest) s = absurd (omega (arith, s.ten))
shaped (a ∷ b ∷ c ∷ d ∷ e ∷ f ∷ g ∷ h ∷ i ∷ []) s = absurd (omega (arith, s.ten))
shaped (a ∷ b ∷ c ∷ d ∷ e ∷ f ∷ g ∷ h ∷ []) s = absurd (omega (arith, s.ten))
shaped (a ∷ b ∷ c ∷ d ∷ e ∷ f ∷ g ∷ []) s = absurd (omega (arith, s.ten))
shaped (a ∷ b ∷ c ∷ d ∷ e ∷ f ∷ []) s = absurd (omega (arith, s.ten))
shaped (a ∷ b ∷ c ∷ d ∷ e ∷ []) s = absurd (omega (arith, s.ten))
shaped (a ∷ b ∷ c ∷ d ∷ []) s = absurd (omega (arith, s.ten))
shaped (a ∷ b ∷ c ∷ []) s = absurd (omega (arith, s.ten))
shaped (a ∷ b ∷ []) s = absurd (omega (arith, s.ten))
shaped (a ∷ []) s = absurd (omega (arith, s.ten))
shaped [] s = absurd (omega (arith, s.ten))

date_same : (y₁ y₂ m₁ m₂ d₁ d₂ : ℕ) → y₁ ≡ y₂ → m₁ ≡ m₂ → d₁ ≡ d₂ → date_text y₁ m₁ d₁ ≡ date_text y₂ m₂ d₂
date_same y₁ y₂ m₁ m₂ d₁ d₂ y m d = rw (y, m, d) refl

pub day_is_written : (text : List ℕ) (day : ℕ) → SpellsDay text (pos day) → text ≡ day_text day
day_is_written text day spells =
    let date = spells.0 in
    let p = spells.1.parts in
    let year : year_of text ≡ unsigned_abs date.year = sym (ap unsigned_abs p.0) in
    let month : month_of text ≡ date.month = cc in
    let day_is : day_of text ≡ date.day = cc in
    shaped text spells.1.shape ∙ date_same _ _ _ _ _ _ year month day_is ∙ date_text-day_text date day spells.2
