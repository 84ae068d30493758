-- A valid table read back: what is written of names, numbers, days, rules and supplies is ASCII, so that it is text.
use Rattle.std.proofs.Common.{◌≡◌, ◌<◌, ℕ, ◌-◌, zero, suc, Bool, true, ltb, List, [], ◌∷◌, codes, refl, arith}
use Rattle.std.specs.Char.{is_ascii_digit}
use Rattle.std.specs.List.{All, join_with_byte, list_all}
use Rattle.std.specs.Str.{IsAscii, is_utf8}
use Rattle.std.proofs.lemmas.Bool.{and_parts}
use Rattle.std.proofs.lemmas.Bool.Decides.{nat_tests}
use Rattle.std.proofs.lemmas.List.Elements.{All-head, All-tail}
use Rattle.std.proofs.lemmas.Str.{IsAscii-append, IsUtf8-from_ascii, is_utf8-from_IsUtf8}
use Rattle.std.proofs.lemmas.Str.Ascii.{IsAscii-nil}
use Rattle.std.specs.Prelude.{decimal}
use Rattle.mrp_cal.specs.DateText.{HasDateShape}
use Rattle.mrp_cal.specs.Days.{date_text}
use Rattle.mrp_lot.specs.Lot.{IsRule}
use Rattle.mrp_lot.specs.declared.rule.Rule.{Rule}
use Rattle.mrp_lot.specs.declared.rule.Rule.TheVariants.{LotForLot, Fixed, Periods, MinMultiple}
use Rattle.mrp_master_data.specs.Spelling.{is_name, is_name_byte, rule_text}
use Rattle.mrp_master_data.specs.Parsing.{IsShort}
use Rattle.mrp_master_data.specs.Supplies.{BuyTerms, FromTerms, MakeTerms, source_fields, sources_text, SourceTerms, supply_text, SupplyTerms}
use Rattle.mrp_master_data.specs.SupplyParsing.{HasName, IsShare, IsWholeSupply}
use Rattle.mrp_master_data.proofs.Decimals.{decimal_digits}

more : (b : ℕ) (bs : List ℕ) → b < 128 → IsAscii bs → IsAscii (b ∷ bs)
more b bs here rest zero = here
more b bs here rest (suc i) = rest i

-- texts of bytes that pass a test of ASCII bytes
passing : (p : ℕ → Bool) → ((b : ℕ) → p b ≡ true → b < 128) → (text : List ℕ) → list_all p text ≡ true → IsAscii text
passing p small [] e = IsAscii-nil
passing p small (b ∷ bs) e = let parts = and_parts (p b) (list_all p bs) e in more b bs (small b parts.0) (passing p small bs parts.1)

small_byte : (b : ℕ) → ltb b 128 ≡ true → b < 128
small_byte b e = grind (arith, nat_tests)

small_digit : (b : ℕ) → is_ascii_digit b ≡ true → b < 128
small_digit b e = grind (arith, nat_tests)

small_name_byte : (b : ℕ) → is_name_byte b ≡ true → b < 128
small_name_byte b e = grind (arith, nat_tests)

word : (text : List ℕ) → list_all (λ b. ltb b 128) text ≡ true → IsAscii text
word text e = passing (λ b. ltb b 128) small_byte text e

name : (text : List ℕ) → is_name text ≡ true → IsAscii text
name text e = passing is_name_byte small_name_byte text (and_parts _ (list_all is_name_byte text) e).1

number : (n : ℕ) → IsShort n → IsAscii (decimal n)
number n short = passing is_ascii_digit small_digit (decimal n) (decimal_digits n (omega (arith, short)))

rule : (r : Rule) → IsRule r → IsAscii (rule_text r)
rule LotForLot is = word (codes "lot") refl
rule (Fixed q) is = IsAscii-append (codes "fixed:") (decimal q) (word (codes "fixed:") refl) (number q (omega (arith, is.1)))
rule (Periods k) is = IsAscii-append (codes "periods:") (decimal k) (word (codes "periods:") refl) (number k (omega (arith, is.1)))
rule (MinMultiple m k) is =
    let least = is.0 in
    let multiple = is.1 in
    IsAscii-append (codes "min:") _ (word (codes "min:") refl)
    (IsAscii-append (decimal m) _ (number m (omega (arith, least.1)))
    (IsAscii-append (codes ":") (decimal k) (word (codes ":") refl) (number k (omega (arith, multiple.1)))))

-- ---- supplies

abbrev AllAscii : List (List ℕ) → Type 0
AllAscii [] = Unit {0}
AllAscii (f ∷ fs) = IsAscii f × AllAscii fs

joined : (fs : List (List ℕ)) → AllAscii fs → IsAscii (join_with_byte 58 fs)
joined [] h = IsAscii-nil
joined (f ∷ []) h = h.0
joined (f ∷ g ∷ fs) h = IsAscii-append f (58 ∷ join_with_byte 58 (g ∷ fs)) h.0 (more 58 _ (omega arith) (joined (g ∷ fs) h.1))

shares : (ss : List SourceTerms) → All HasName ss → All IsShare ss → AllAscii (source_fields ss)
shares [] names each = tt
shares (s ∷ ss) names each =
    let share = All-head IsShare s ss each in
    let ends = share.ends in (
      name s.plant (All-head HasName s ss names),
      (
        number (s.high - s.low) (omega (arith, ends)),
        shares ss (All-tail HasName s ss names)
            (All-tail IsShare s ss each),
      ),
    )

sources : (ss : List SourceTerms) → All HasName ss → All IsShare ss → IsAscii (sources_text ss)
sources [] names each = IsAscii-nil
sources (s ∷ []) names each = name s.plant (All-head HasName s [] names)
sources (s ∷ t ∷ ss) names each = joined (source_fields (s ∷ t ∷ ss)) (shares (s ∷ t ∷ ss) names each)

supply : (s : SupplyTerms) → IsWholeSupply s → IsAscii (supply_text s)
supply MakeTerms is = word (codes "make") refl
supply BuyTerms is = word (codes "buy") refl
supply (FromTerms ss) is = IsAscii-append (codes "from:") (sources_text ss) (word (codes "from:") refl) (sources ss is.names is.each)

-- ---- days

abbrev AllSmall : List ℕ → Type 0
AllSmall [] = Unit {0}
AllSmall (b ∷ bs) = (b < 128) × AllSmall bs

small : (text : List ℕ) → AllSmall text → IsAscii text
small [] h = IsAscii-nil
small (b ∷ bs) h = more b bs h.0 (small bs h.1)

shaped : (y m d : ℕ) → HasDateShape (date_text y m d) → IsAscii (date_text y m d)
shaped y m d s =
    small (date_text y m d) (
      omega (arith, s.year.0.1),
      (
        omega (arith, s.year.1.1),
        (
          omega (arith, s.year.2.1),
          (
            omega (arith, s.year.3.1),
            (
              omega arith,
              (omega (arith, s.month.0.1), (omega (arith, s.month.1.1), (omega arith, (omega (arith, s.day.0.1), (omega (arith, s.day.1.1), tt))))),
            ),
          ),
        ),
      ),
    )

-- ---- all of it is text

as_text : (text : List ℕ) → IsAscii text → is_utf8 text ≡ true
as_text text ascii = is_utf8-from_IsUtf8 text (IsUtf8-from_ascii text ascii)

pub word_is_text : (text : List ℕ) → list_all (λ b. ltb b 128) text ≡ true → is_utf8 text ≡ true
word_is_text text e = as_text text (word text e)

pub name_is_text : (text : List ℕ) → is_name text ≡ true → is_utf8 text ≡ true
name_is_text text e = as_text text (name text e)

pub number_is_text : (n : ℕ) → IsShort n → is_utf8 (decimal n) ≡ true
number_is_text n short = as_text (decimal n) (number n short)

pub rule_is_text : (r : Rule) → IsRule r → is_utf8 (rule_text r) ≡ true
rule_is_text r is = as_text (rule_text r) (rule r is)

pub supply_is_text : (s : SupplyTerms) → IsWholeSupply s → is_utf8 (supply_text s) ≡ true
supply_is_text s is = as_text (supply_text s) (supply s is)

pub date_is_text : (y m d : ℕ) → HasDateShape (date_text y m d) → is_utf8 (date_text y m d) ≡ true
date_is_text y m d shape = as_text (date_text y m d) (shaped y m d shape)
