-- CSV output: fields of a row that are empty where there is nothing to say.
use Rattle.std.specs.Prelude.{ℕ, List, [], decimal, Option}
use Rattle.std.specs.Option.{option_map_or}
use Rattle.mrp_csv_out.specs.DateLists.{date_in}

-- a number, where there is one
abbrev pub number_if_any : Option ℕ → List ℕ
number_if_any number = option_map_or decimal number []

-- the date of a period, where there is one
abbrev pub date_if_any : List (List ℕ) → Option ℕ → List ℕ
date_if_any dates period = option_map_or (date_in dates) period []
