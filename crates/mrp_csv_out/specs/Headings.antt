-- CSV output: the names of any report's columns, which may stand as a row above its rows.
use Rattle.std.specs.Prelude.{ℕ, List, []}
use Rattle.mrp_commands.specs.declared.choice.Heading.{Heading}
use Rattle.mrp_commands.specs.declared.choice.Heading.TheVariants.{Without, Names}
use Rattle.mrp_csv_out.specs.Rows.{row}

-- the names as a row, where they are asked for
abbrev pub header_row : Heading → List (List ℕ) → List ℕ
header_row Without names = []
header_row Names names = row names
