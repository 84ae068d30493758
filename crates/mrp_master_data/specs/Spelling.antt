-- Master data: how names and lot rules are spelled. The one text of a number is its decimal
-- digits, without a zero before them.
use Rattle.std.specs.Prelude.{ℕ, decimal, ◌==◌, ◌&&◌, ◌||◌, nat_le, Bool, List, ◌++◌, length, codes}
use Rattle.std.specs.Char.{is_ascii_alphanumeric}
use Rattle.std.specs.List.{list_all}
use Rattle.mrp_lot.specs.declared.rule.Rule.{Rule}
use Rattle.mrp_lot.specs.declared.rule.Rule.TheVariants.{LotForLot, Fixed, Periods, MinMultiple}

-- a letter, a digit, `-`, `_` or `.`
abbrev pub is_name_byte : ℕ → Bool
is_name_byte b = is_ascii_alphanumeric b || b == 45 || b == 95 || b == 46

-- a name has 1 to 20 such bytes
abbrev pub is_name : List ℕ → Bool
is_name text = nat_le 1 (length text) && nat_le (length text) 20 && list_all is_name_byte text

-- the one text of a lot rule
abbrev pub rule_text : Rule → List ℕ
rule_text LotForLot = codes "lot"
rule_text (Fixed q) = codes "fixed:" ++ decimal q
rule_text (Periods k) = codes "periods:" ++ decimal k
rule_text (MinMultiple m k) = codes "min:" ++ (decimal m ++ (codes ":" ++ decimal k))
