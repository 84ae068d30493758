-- Master data: a number has one text, its digits, without a zero before them.
use Rattle.std.proofs.Common.{◌≡◌, ◌≢◌, ◌<◌, ◌≤◌, ◌^◌, ◌==◌, ◌&&◌, ◌||◌, ℕ, zero, suc, Bool, true, false, not, leb, if◌then◌else◌, get_or, List, length, Option}
use Rattle.std.proofs.Common.{Some, None, MatchOption, refl, ap, sym, ◌∙◌, subst, arith, rules}
use Rattle.std.specs.Char.{is_ascii_digit}
use Rattle.std.specs.Fmt.{decimal}
use Rattle.std.specs.List.{list_all}
use Rattle.std.proofs.lemmas.Bool.{and_parts, eqb-true, ne_eqb}
use Rattle.std.proofs.lemmas.Bool.Decides.{nat_tests}
use Rattle.std.proofs.lemmas.Fmt.{decimal-digits_value, decimal_digit, decimal_nonempty, digits_decimal, digits_value-decimal, first_decimal, length-decimal-le}
use Rattle.std.proofs.lemmas.Str.Parse.{digits_value_short, IsNumeralModel, numerals_by_fold}
use Rattle.mrp_master_data.specs.Parsing.{is_number, spelled_number, read_on}

own : IsNumeralModel (λ ds. list_all is_ascii_digit ds ≡ true) (read_on 0)
own = numerals_by_fold _ (search rules) read_on (search rules)

-- the tests of a text that is a number
record IsDigits (text : List ℕ) : Type 0 where
  some : 0 < length text
  few : length text ≤ 16
  first : get_or text 0 0 ≡ 48 → length text ≡ 1
  digits : list_all is_ascii_digit text ≡ true

lone : (a b : Bool) (m n : ℕ) → (m == 48) ≡ a → (n == 1) ≡ b → (not a || b) ≡ true → m ≡ 48 → n ≡ 1
lone true true m n ea eb t is = eqb-true n 1 eb
lone true false m n ea eb t is = absurd (cc)
lone false b m n ea eb t is = grind (arith, nat_tests)

parts_of : (text : List ℕ) → is_number text ≡ true → IsDigits text
parts_of text is =
    let a = and_parts (leb 1 (length text) && leb (length text) 16 && (not (get_or text 0 0 == 48) || length text == 1)) (list_all is_ascii_digit text) is in
    let b = and_parts (leb 1 (length text) && leb (length text) 16) (not (get_or text 0 0 == 48) || length text == 1) a.0 in
    let c = and_parts (leb 1 (length text)) (leb (length text) 16) b.0 in
    record {
      some = grind (arith, nat_tests);
      few = grind (arith, nat_tests);
      first = lone (get_or text 0 0 == 48) (length text == 1) (get_or text 0 0) (length text) refl refl b.1;
      digits = a.1;
    }

-- what is read as a number is the text of that number
pub number-spelled : (text : List ℕ) (n : ℕ) → spelled_number text ≡ Some n → (text ≡ decimal n) × (n < 10 ^ 16)
unfolding spelled_number
number-spelled text n is = by (is_number text) refl is
  where
    by : (b : Bool) → is_number text ≡ b → ◌≡◌ {A = Option ℕ} (if b then Some (read_on 0 text) else None) (Some n) → (text ≡ decimal n) × (n < 10 ^ 16)
    by true t e =
        let p = parts_of text t in
        let same : read_on 0 text ≡ n = cc in
        let small : read_on 0 text < 10 ^ 16 = digits_value_short own text 16 p.digits p.few in
        let fits : read_on 0 text < 2 ^ 64 = omega (arith, small) in
        (sym (decimal-digits_value own text p.digits p.some p.first fits) ∙ ap decimal same, subst (λ m. m < 10 ^ 16) same small)
    by false t e = absurd (cc)

all_true : (a b c d : Bool) → a ≡ true → b ≡ true → c ≡ true → d ≡ true → (a && b && c && d) ≡ true
all_true a b c d ea eb ec ed = rw (ea, eb, ec, ed) refl

first_is : (n : ℕ) → n < 2 ^ 64 → (not (get_or (decimal n) 0 0 == 48) || length (decimal n) == 1) ≡ true
first_is zero fits = let e = decimal_digit 0 (omega arith) in rw e refl
first_is (suc n) fits =
    let more : 48 < get_or (decimal (suc n)) 0 0 = first_decimal (suc n) (omega arith) fits in
    let differs : (get_or (decimal (suc n)) 0 0 == 48) ≡ false = ne_eqb _ 48 (λ e. absurd (omega arith)) in
    rw differs refl

pub decimal_digits : (n : ℕ) → n < 2 ^ 64 → list_all is_ascii_digit (decimal n) ≡ true
decimal_digits n fits = digits_decimal own n fits

-- the text of a number is read as it
pub number-written : (n : ℕ) → n < 10 ^ 16 → spelled_number (decimal n) ≡ Some n
unfolding spelled_number
number-written n small =
    let fits : n < 2 ^ 64 = omega (arith, small) in
    let some : 0 < length (decimal n) = decimal_nonempty n fits in
    let few : length (decimal n) ≤ 16 = length-decimal-le 16 n (omega arith) small fits in
    let one : leb 1 (length (decimal n)) ≡ true = grind (arith, nat_tests) in
    let most : leb (length (decimal n)) 16 ≡ true = grind (arith, nat_tests) in
    let is : is_number (decimal n) ≡ true = all_true _ _ _ _ one most (first_is n fits) (digits_decimal own n fits) in
    rw is (ap (λ (m : ℕ). Some m) (digits_value-decimal own n fits))

-- the answer of a reader of numbers says whose text it was
pub number-exact : (text : List ℕ) (o : Option ℕ) → spelled_number text ≡ o
    → MatchOption o ((n : ℕ) → n < 10 ^ 16 → text ≢ decimal n) (λ n. (text ≡ decimal n) × (n < 10 ^ 16))
number-exact text None e = λ n small same. let read = ap spelled_number same ∙ number-written n small in absurd (cc)
number-exact text (Some n) e = number-spelled text n e
