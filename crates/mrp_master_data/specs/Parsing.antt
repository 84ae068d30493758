-- Master data: which number and which lot rule a text spells.
use Rattle.std.specs.Prelude.{ℕ, ◌<◌, ◌^◌, ◌+◌, ◌-◌, ◌*◌, ◌==◌, ◌&&◌, ◌||◌, not, nat_lt, nat_le, Bool, if◌then◌else◌}
use Rattle.std.specs.Prelude.{List, [], ◌∷◌, length}
use Rattle.std.specs.Prelude.{slice_index, codes, Option, Some, None, option_map}
use Rattle.std.specs.Char.{is_ascii_digit}
use Rattle.std.specs.List.{before_first, after_first, position_or_len, list_all}
use Rattle.std.specs.Str.{bytes_eq}
use Rattle.mrp_lot.specs.declared.rule.Rule.{Rule}
use Rattle.mrp_lot.specs.declared.rule.Rule.TheVariants.{LotForLot, Fixed, Periods, MinMultiple}
use Rattle.mrp_lot.specs.declared.rule.TheConstants.{MOST_IN_RULE}

-- a number is `0`, or 1 to 16 digits of which the first is not `0`
abbrev pub is_number : List ℕ → Bool
is_number text = nat_le 1 (length text) && nat_le (length text) 16
    && (not (slice_index text 0 == 48) || length text == 1) && list_all is_ascii_digit text

-- the greatest number that is read has 16 digits
abbrev pub IsShort : ℕ → Type 0
IsShort n = n < 10 ^ 16

-- the number that digits spell after n
abbrev pub read_on : ℕ → List ℕ → ℕ
read_on n [] = n
read_on n (c ∷ cs) = read_on (10 * n + (c - 48)) cs

-- the number that a text spells
unfoldable pub spelled_number : List ℕ → Option ℕ
spelled_number text = if is_number text then Some (read_on 0 text) else None

abbrev pub kept_within : ℕ → ℕ → Option ℕ → Option ℕ
kept_within low high None = None
kept_within low high (Some n) = if nat_le low n && nat_le n high then Some n else None

-- the number that a text spells, where it is low to high
unfoldable pub number_within : List ℕ → ℕ → ℕ → Option ℕ
number_within text low high = kept_within low high (spelled_number text)

abbrev pub is_colon : ℕ → Bool
is_colon b = b == 58

-- a text cut at its first colon
unfoldable pub cut : List ℕ → Option (List ℕ × List ℕ)
cut text = if nat_lt (position_or_len is_colon text) (length text)
    then Some (before_first is_colon text, after_first is_colon text) else None

abbrev pub min_rule : Option ℕ → Option ℕ → Option Rule
min_rule None k = None
min_rule (Some m) None = None
min_rule (Some m) (Some k) = Some (MinMultiple m k)

abbrev pub min_rule_of : Option (List ℕ × List ℕ) → Option Rule
min_rule_of None = None
min_rule_of (Some p) = min_rule (number_within p.0 1 MOST_IN_RULE) (number_within p.1 1 MOST_IN_RULE)

-- the rule of a word and the numbers after it, which covers so many periods at most
unfoldable pub numbered_rule : ℕ → List ℕ → List ℕ → Option Rule
numbered_rule longest word numbers =
    if bytes_eq word (codes "fixed") then option_map Fixed (number_within numbers 1 MOST_IN_RULE)
    else if bytes_eq word (codes "periods") then option_map Periods (number_within numbers 1 longest)
    else if bytes_eq word (codes "min") then min_rule_of (cut numbers)
    else None

abbrev pub rule_in : ℕ → List ℕ → Option (List ℕ × List ℕ) → Option Rule
rule_in longest text None = if bytes_eq text (codes "lot") then Some LotForLot else None
rule_in longest text (Some p) = numbered_rule longest p.0 p.1

-- `lot`, `fixed:Q`, `periods:K` or `min:M:K`, where K is at most the longest number of periods
unfoldable pub rule_of : ℕ → List ℕ → Option Rule
rule_of longest text = rule_in longest text (cut text)
