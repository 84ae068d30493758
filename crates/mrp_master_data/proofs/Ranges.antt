-- Master data: a number that is spelled is in the range that was asked for, and one in
-- that range is spelled by its text.
use Rattle.std.proofs.Common.{◌≡◌, ◌≤◌, ◌<◌, ◌^◌, ℕ, ◌&&◌, Bool, true, false, leb, if◌then◌else◌, List, Option, Some, None, option_map, refl, ap, ◌∙◌, subst}
use Rattle.std.proofs.Common.{arith}
use Rattle.std.specs.Fmt.{decimal}
use Rattle.std.proofs.lemmas.Bool.{and_from}
use Rattle.std.proofs.lemmas.Bool.Decides.{nat_tests}
use Rattle.std.specs.Prelude.{codes}
use Rattle.std.specs.Str.{bytes_eq}
use Rattle.mrp_lot.specs.declared.rule.Rule.{Rule}
use Rattle.mrp_lot.specs.declared.rule.Rule.TheVariants.{LotForLot, Fixed, Periods, MinMultiple}
use Rattle.mrp_lot.specs.declared.rule.TheConstants.{MOST_IN_RULE}
use Rattle.mrp_lot.specs.Lot.{IsRuleWithin}
use Rattle.mrp_master_data.specs.Parsing.{cut, kept_within, min_rule, min_rule_of, spelled_number, number_within, numbered_rule, rule_in, rule_of}
use Rattle.mrp_master_data.proofs.Decimals.{number-spelled, number-written}

pub same_Some : {A : Type 0} (x y : A) → ◌≡◌ {A = Option A} (Some x) (Some y) → x ≡ y
same_Some x y e = cc

abbrev Within : ℕ → ℕ → ℕ → Type 0
Within low high n = (low ≤ n) × (n ≤ high)

kept_range : (low high : ℕ) (o : Option ℕ) (n : ℕ) → kept_within low high o ≡ Some n → Within low high n
kept_range low high None n e = absurd (cc)
kept_range low high (Some m) n e = by (leb low m) (leb m high) refl refl e
  where
    by : (b c : Bool) → leb low m ≡ b → leb m high ≡ c → ◌≡◌ {A = Option ℕ} (if b && c then Some m else None) (Some n) → Within low high n
    by true true lb lc e = subst (Within low high) (same_Some m n e) (grind (arith, nat_tests), grind (arith, nat_tests))
    by true false lb lc e = absurd (cc)
    by false c lb lc e = absurd (cc)

-- a number that was read within bounds is within them
pub within_range : (text : List ℕ) (low high n : ℕ) → number_within text low high ≡ Some n → (low ≤ n) × (n ≤ high)
unfolding number_within
within_range text low high n e = kept_range low high (spelled_number text) n e

kept_same : (low high : ℕ) (o : Option ℕ) (n : ℕ) → kept_within low high o ≡ Some n → o ≡ Some n
kept_same low high None n e = absurd (cc)
kept_same low high (Some m) n e = by (leb low m && leb m high) e
  where
    by : (b : Bool) → ◌≡◌ {A = Option ℕ} (if b then Some m else None) (Some n) → ◌≡◌ {A = Option ℕ} (Some m) (Some n)
    by true e = e
    by false e = absurd (cc)

-- and its text is the number's
pub number_is : (text : List ℕ) (low high n : ℕ) → number_within text low high ≡ Some n → text ≡ decimal n
unfolding number_within
number_is text low high n e = (number-spelled text n (kept_same low high (spelled_number text) n e)).0

-- the text of a number within bounds is read as it
pub number_written : (low high n : ℕ) → low ≤ n → n ≤ high → n < 10 ^ 16 → number_within (decimal n) low high ≡ Some n
unfolding number_within
number_written low high n some few small =
    ap (kept_within low high) (number-written n small)
    ∙ ap (λ b. let o : Option ℕ = if b then Some n else None in o) (and_from (leb low n) (leb n high) (grind (arith, nat_tests)) (grind (arith, nat_tests)))

-- ---- rules

rule_of_one : (longest : ℕ) (f : ℕ → Rule) (o : Option ℕ) (r : Rule) → ((n : ℕ) → o ≡ Some n → IsRuleWithin longest (f n)) → option_map f o ≡ Some r
    → IsRuleWithin longest r
rule_of_one longest f (Some n) r is e = subst (IsRuleWithin longest) (same_Some (f n) r e) (is n refl)
rule_of_one longest f None r is e = absurd (cc)

rule_of_two : (longest : ℕ) (a b : Option ℕ) (r : Rule) → ((n : ℕ) → a ≡ Some n → Within 1 MOST_IN_RULE n) → ((n : ℕ) → b ≡ Some n → Within 1 MOST_IN_RULE n)
    → min_rule a b ≡ Some r → IsRuleWithin longest r
rule_of_two longest (Some m) (Some k) r is also e = subst (IsRuleWithin longest) (same_Some (MinMultiple m k) r e) (is m refl, also k refl)
rule_of_two longest (Some m) None r is also e = absurd (cc)
rule_of_two longest None b r is also e = absurd (cc)

min_is : (longest : ℕ) (o : Option (List ℕ × List ℕ)) (r : Rule) → min_rule_of o ≡ Some r → IsRuleWithin longest r
min_is longest (Some p) r e = rule_of_two longest (number_within p.0 1 MOST_IN_RULE) (number_within p.1 1 MOST_IN_RULE) r (within_range p.0 1 MOST_IN_RULE)
    (within_range p.1 1 MOST_IN_RULE) e
min_is longest None r e = absurd (cc)

numbered_is : (longest : ℕ) (word numbers : List ℕ) (r : Rule) → numbered_rule longest word numbers ≡ Some r → IsRuleWithin longest r
unfolding numbered_rule
numbered_is longest word numbers r e = by (bytes_eq word (codes "fixed")) (bytes_eq word (codes "periods")) (bytes_eq word (codes "min")) e
  where
    by : (fixed periods min : Bool)
        → ◌≡◌ {A = Option Rule} (if fixed then option_map Fixed (number_within numbers 1 MOST_IN_RULE)
        else if periods then option_map Periods (number_within numbers 1 longest)
        else if min then min_rule_of (cut numbers)
        else None) (Some r) → IsRuleWithin longest r
    by true periods min e = rule_of_one longest Fixed (number_within numbers 1 MOST_IN_RULE) r (within_range numbers 1 MOST_IN_RULE) e
    by false true min e = rule_of_one longest Periods (number_within numbers 1 longest) r (within_range numbers 1 longest) e
    by false false true e = min_is longest (cut numbers) r e
    by false false false e = absurd (cc)

rule_in_is : (longest : ℕ) (text : List ℕ) (o : Option (List ℕ × List ℕ)) (r : Rule) → rule_in longest text o ≡ Some r → IsRuleWithin longest r
rule_in_is longest text None r e = by (bytes_eq text (codes "lot")) e
  where
    by : (b : Bool) → ◌≡◌ {A = Option Rule} (if b then Some LotForLot else None) (Some r) → IsRuleWithin longest r
    by true e = subst (IsRuleWithin longest) (same_Some LotForLot r e) tt
    by false e = absurd (cc)
rule_in_is longest text (Some p) r e = numbered_is longest p.0 p.1 r e

-- the numbers of a rule are in their ranges
pub rule_is : (longest : ℕ) (text : List ℕ) (r : Rule) → rule_of longest text ≡ Some r → IsRuleWithin longest r
unfolding rule_of
rule_is longest text r e = rule_in_is longest text (cut text) r e
