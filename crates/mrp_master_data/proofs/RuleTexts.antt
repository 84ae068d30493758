-- Master data: a lot rule has one text, and that text is read as it.
use Rattle.std.proofs.Common.{◌≡◌, ◌≢◌, ◌<◌, ◌^◌, ℕ, Bool, true, false, if◌then◌else◌, List, ◌∷◌, ◌++◌, Option, Some, None, option_map, MatchOption, refl, ap}
use Rattle.std.proofs.Common.{◌∙◌, subst}
use Rattle.std.proofs.Common.{arith}
use Rattle.std.specs.Fmt.{decimal}
use Rattle.std.specs.Prelude.{codes}
use Rattle.std.specs.Str.{bytes_eq}
use Rattle.std.proofs.lemmas.Slice.Eq.{bytes_eq-Decides}
use Rattle.mrp_lot.specs.declared.rule.Rule.{Rule}
use Rattle.mrp_lot.specs.declared.rule.Rule.TheVariants.{LotForLot, Fixed, Periods, MinMultiple}
use Rattle.mrp_lot.specs.declared.rule.TheConstants.{MOST_IN_RULE}
use Rattle.mrp_lot.specs.Lot.{IsRuleWithin}
use Rattle.mrp_master_data.specs.Spelling.{is_name_byte, rule_text}
use Rattle.mrp_master_data.specs.Parsing.{cut, min_rule, min_rule_of, number_within, numbered_rule, rule_in, rule_of}
use Rattle.mrp_master_data.proofs.Cuts.{cut_at, cut_none, cut_text, plain, plain_number}
use Rattle.mrp_master_data.proofs.Ranges.{number_is, number_written, rule_is, same_Some}

-- ---- what is read is the text of what it is read as

-- a word with its colon, and one number
one_number : (f : ℕ → Rule) (word numbers : List ℕ) (o : Option ℕ) (r : Rule) → ((n : ℕ) → word ++ decimal n ≡ rule_text (f n))
    → ((n : ℕ) → o ≡ Some n → numbers ≡ decimal n) → option_map f o ≡ Some r → word ++ numbers ≡ rule_text r
one_number f word numbers None r text is e = absurd (cc)
one_number f word numbers (Some n) r text is e =
    subst (λ r. word ++ numbers ≡ rule_text r) (same_Some (f n) r e) (ap (λ l. word ++ l) (is n refl) ∙ text n)

two_numbers : (a b : Option ℕ) (least multiple : List ℕ) (r : Rule) → ((n : ℕ) → a ≡ Some n → least ≡ decimal n)
    → ((n : ℕ) → b ≡ Some n → multiple ≡ decimal n) → min_rule a b ≡ Some r → codes "min:" ++ (least ++ (58 ∷ multiple)) ≡ rule_text r
two_numbers None b least multiple r is also e = absurd (cc)
two_numbers (Some m) None least multiple r is also e = absurd (cc)
two_numbers (Some m) (Some k) least multiple r is also e =
    subst (λ r. codes "min:" ++ (least ++ (58 ∷ multiple)) ≡ rule_text r) (same_Some (MinMultiple m k) r e)
    (ap (λ l. codes "min:" ++ (l ++ (58 ∷ multiple))) (is m refl) ∙ ap (λ l. codes "min:" ++ (decimal m ++ (58 ∷ l))) (also k refl))

min_text : (numbers : List ℕ) (r : Rule) → min_rule_of (cut numbers) ≡ Some r → codes "min:" ++ numbers ≡ rule_text r
min_text numbers r e = by (cut numbers) refl e
  where
    by : (o : Option (List ℕ × List ℕ)) → cut numbers ≡ o → min_rule_of o ≡ Some r → codes "min:" ++ numbers ≡ rule_text r
    by None c e = absurd (cc)
    by (Some p) c e =
        ap (λ l. codes "min:" ++ l) (cut_text numbers p c)
        ∙ two_numbers (number_within p.0 1 MOST_IN_RULE) (number_within p.1 1 MOST_IN_RULE) p.0 p.1 r (number_is p.0 1 MOST_IN_RULE)
        (number_is p.1 1 MOST_IN_RULE) e

numbered_text : (longest : ℕ) (word numbers : List ℕ) (r : Rule) → numbered_rule longest word numbers ≡ Some r → word ++ (58 ∷ numbers) ≡ rule_text r
unfolding numbered_rule
numbered_text longest word numbers r e = by (bytes_eq word (codes "fixed")) (bytes_eq word (codes "periods")) (bytes_eq word (codes "min")) refl refl refl e
  where
    named : (w : List ℕ) → bytes_eq word w ≡ true → word ++ (58 ∷ numbers) ≡ w ++ (58 ∷ numbers)
    named w is = ap (λ l. l ++ (58 ∷ numbers)) ((bytes_eq-Decides word w).0 is)

    by : (fixed periods min : Bool) → bytes_eq word (codes "fixed") ≡ fixed → bytes_eq word (codes "periods") ≡ periods → bytes_eq word (codes "min") ≡ min
        → ◌≡◌ {A = Option Rule} (if fixed then option_map Fixed (number_within numbers 1 MOST_IN_RULE)
        else if periods then option_map Periods (number_within numbers 1 longest)
        else if min then min_rule_of (cut numbers)
        else None) (Some r) → word ++ (58 ∷ numbers) ≡ rule_text r
    by true periods min f p m e =
        named (codes "fixed") f
        ∙ one_number Fixed (codes "fixed:") numbers (number_within numbers 1 MOST_IN_RULE) r (λ n. refl) (number_is numbers 1 MOST_IN_RULE) e
    by false true min f p m e =
        named (codes "periods") p
        ∙ one_number Periods (codes "periods:") numbers (number_within numbers 1 longest) r (λ n. refl) (number_is numbers 1 longest) e
    by false false true f p m e = named (codes "min") m ∙ min_text numbers r e
    by false false false f p m e = absurd (cc)

pub rule_is_text : (longest : ℕ) (text : List ℕ) (r : Rule) → rule_of longest text ≡ Some r → text ≡ rule_text r
unfolding rule_of
rule_is_text longest text r e = by (cut text) refl e
  where
    word : (b : Bool) → bytes_eq text (codes "lot") ≡ b → ◌≡◌ {A = Option Rule} (if b then Some LotForLot else None) (Some r) → text ≡ rule_text r
    word true l e = subst (λ r. text ≡ rule_text r) (same_Some LotForLot r e) ((bytes_eq-Decides text (codes "lot")).0 l)
    word false l e = absurd (cc)

    by : (o : Option (List ℕ × List ℕ)) → cut text ≡ o → rule_in longest text o ≡ Some r → text ≡ rule_text r
    by None c e = word (bytes_eq text (codes "lot")) refl e
    by (Some p) c e = cut_text text p c ∙ numbered_text longest p.0 p.1 r e

-- ---- the text of a rule is read as it

pub rule_written : (longest : ℕ) (r : Rule) → longest < 10 ^ 16 → IsRuleWithin longest r → rule_of longest (rule_text r) ≡ Some r
unfolding rule_of numbered_rule
rule_written longest LotForLot short is = ap (rule_in longest (codes "lot")) (cut_none (codes "lot") (plain is_name_byte refl (codes "lot") refl))
rule_written longest (Fixed q) short is =
    ap (rule_in longest (rule_text (Fixed q))) (cut_at (codes "fixed") (decimal q) (plain is_name_byte refl (codes "fixed") refl))
    ∙ ap (option_map Fixed) (number_written 1 MOST_IN_RULE q is.0 is.1 (omega (arith, is.1)))
rule_written longest (Periods k) short is =
    ap (rule_in longest (rule_text (Periods k))) (cut_at (codes "periods") (decimal k) (plain is_name_byte refl (codes "periods") refl))
    ∙ ap (option_map Periods) (number_written 1 longest k is.0 is.1 (omega (arith, is.1, short)))
rule_written longest (MinMultiple m k) short is =
    let least = is.0 in
    let multiple = is.1 in
    ap (rule_in longest (rule_text (MinMultiple m k))) (cut_at (codes "min") (decimal m ++ (58 ∷ decimal k)) (plain is_name_byte refl (codes "min") refl))
    ∙ ap min_rule_of (cut_at (decimal m) (decimal k) (plain_number m (omega (arith, least.1))))
    ∙ ap (λ o. min_rule o (number_within (decimal k) 1 MOST_IN_RULE)) (number_written 1 MOST_IN_RULE m least.0 least.1 (omega (arith, least.1)))
    ∙ ap (min_rule (Some m)) (number_written 1 MOST_IN_RULE k multiple.0 multiple.1 (omega (arith, multiple.1)))

-- the answer of a reader of rules says whose text it was
pub rule_exact : (longest : ℕ) (text : List ℕ) (o : Option Rule) → longest < 10 ^ 16 → rule_of longest text ≡ o
    → MatchOption o ((r : Rule) → IsRuleWithin longest r → text ≢ rule_text r) (λ r. (text ≡ rule_text r) × IsRuleWithin longest r)
rule_exact longest text None short e = λ r is same. let read = ap (rule_of longest) same ∙ rule_written longest r short is in absurd (cc)
rule_exact longest text (Some r) short e = (rule_is_text longest text r e, rule_is longest text r e)
