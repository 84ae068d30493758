-- Records as CSV: in the row of one, the bytes of names and numbers are ASCII, and none calls for quotes.
use Rattle.std.proofs.Common.{◌≡◌, ◌<◌, ◌≤◌, ◌&&◌, ℕ, zero, suc, Bool, true, false, List, [], ◌∷◌, refl, arith, Some, None, if◌then◌else◌}
use Rattle.std.specs.Char.{is_ascii_digit}
use Rattle.std.specs.List.{list_all, list_any}
use Rattle.std.specs.Str.{IsAscii, is_utf8}
use Rattle.std.proofs.lemmas.Bool.{ne_eqb}
use Rattle.std.proofs.lemmas.Bool.Decides.{nat_tests}
use Rattle.std.proofs.lemmas.Str.{IsUtf8-from_ascii, is_utf8-from_IsUtf8}
use Rattle.std.proofs.lemmas.Str.Ascii.{IsAscii-nil}
use Rattle.std.specs.Prelude.{decimal}
use Rattle.csv.specs.Writing.{default_writer, needs_byte}
use Rattle.mrp_master_data.specs.Spelling.{is_name, is_name_byte}
use Rattle.mrp_master_data.specs.Parsing.{IsShort, is_number, spelled_number, read_on}
use Rattle.mrp_master_data.proofs.Decimals.{number-written}

pub both_true : (a b : Bool) → (a && b) ≡ true → (a ≡ true) × (b ≡ true)
both_true true b e = (refl, e)
both_true false b e = absurd (cc)

name_byte_range : (b : ℕ) → is_name_byte b ≡ true → (45 ≤ b) × (b < 128)
name_byte_range b e = grind (arith, nat_tests)

digit_is_name_byte : (b : ℕ) → is_ascii_digit b ≡ true → is_name_byte b ≡ true
digit_is_name_byte b e = rw e refl

plain_byte : (b : ℕ) → 45 ≤ b → needs_byte default_writer b ≡ false
plain_byte b low = rw (ne_eqb b 44 (λ e. omega arith), ne_eqb b 34 (λ e. omega arith), ne_eqb b 13 (λ e. omega arith), ne_eqb b 10 (λ e. omega arith)) refl

-- bytes that may stand in a name
abbrev pub IsPlain : List ℕ → Type 0
IsPlain text = list_all is_name_byte text ≡ true

pub plain_unquoted : (text : List ℕ) → IsPlain text → list_any (needs_byte default_writer) text ≡ false
plain_unquoted [] e = refl
plain_unquoted (b ∷ bs) e =
    let p = both_true (is_name_byte b) (list_all is_name_byte bs) e in
    rw (plain_byte b (name_byte_range b p.0).0) (plain_unquoted bs p.1)

ascii_more : (b : ℕ) (bs : List ℕ) → b < 128 → IsAscii bs → IsAscii (b ∷ bs)
ascii_more b bs here rest zero = here
ascii_more b bs here rest (suc i) = rest i

plain_ascii : (text : List ℕ) → IsPlain text → IsAscii text
plain_ascii [] e = IsAscii-nil
plain_ascii (b ∷ bs) e =
    let p = both_true (is_name_byte b) (list_all is_name_byte bs) e in
    ascii_more b bs (name_byte_range b p.0).1 (plain_ascii bs p.1)

pub plain_utf8 : (text : List ℕ) → IsPlain text → is_utf8 text ≡ true
plain_utf8 text e = is_utf8-from_IsUtf8 text (IsUtf8-from_ascii text (plain_ascii text e))

digits_plain : (text : List ℕ) → list_all is_ascii_digit text ≡ true → IsPlain text
digits_plain [] e = refl
digits_plain (b ∷ bs) e =
    let p = both_true (is_ascii_digit b) (list_all is_ascii_digit bs) e in
    rw (digit_is_name_byte b p.0) (digits_plain bs p.1)

-- the text of a number
number_plain : (text : List ℕ) (n : ℕ) → spelled_number text ≡ Some n → IsPlain text
unfolding spelled_number
number_plain text n e = by (is_number text) refl e
  where
    by : (t : Bool) → is_number text ≡ t → (if t then Some (read_on 0 text) else None) ≡ Some n → IsPlain text
    by true test e = digits_plain text (both_true _ (list_all is_ascii_digit text) test).1
    by false test e = absurd (cc)

pub decimal_plain : (n : ℕ) → IsShort n → IsPlain (decimal n)
decimal_plain n short = number_plain (decimal n) n (number-written n short)

pub name_plain : (text : List ℕ) → is_name text ≡ true → IsPlain text
name_plain text e = (both_true _ (list_all is_name_byte text) e).1
