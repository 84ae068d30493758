-- Master data: the number that a text of digits spells.
use Rattle.std.specs.Prelude.{ℕ, if◌then◌else◌, List, Option, Some, None}
use Rattle.std.specs.Char.{is_ascii_digit}
use Rattle.std.specs.List.{list_all}
use Rattle.mrp_master_data.specs.Parsing.{read_on}

-- the number that digits spell after n, where each byte is one
abbrev pub digits_from : ℕ → List ℕ → Option ℕ
digits_from n text = if list_all is_ascii_digit text then Some (read_on n text) else None

abbrev pub digits_of : List ℕ → Option ℕ
digits_of text = digits_from 0 text
