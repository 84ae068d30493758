-- CSV output: rows as a sheet, and what a reader of comma-separated values has to find in any report.
use Rattle.std.specs.Prelude.{◌≡◌, ℕ, false, List, [], ◌∷◌, All}
use Rattle.csv.specs.Reading.{default_config, records, strip_bom}
use Rattle.csv.specs.Writing.{default_writer, needs_quotes}
use Rattle.mrp_commands.specs.declared.choice.Heading.{Heading}
use Rattle.mrp_commands.specs.declared.choice.Heading.TheVariants.{Without, Names}

-- a sheet: its rows, each a list of fields
abbrev pub Sheet : Type 0
Sheet = List (List (List ℕ))

-- what csv reads of a text by its defaults: commas between fields, double quotes around those that need them,
-- a row ended by a line feed, a carriage return or both, and no row of headings
abbrev pub sheet_of : List ℕ → Sheet
sheet_of text = records default_config (strip_bom text)

-- a field without a comma, a double quote or a line end
abbrev pub IsPlain : List ℕ → Type 0
IsPlain field = needs_quotes default_writer field ≡ false

-- csv reads the text as exactly that sheet, and none of its fields needs quotes
pub record IsReadAs (text : List ℕ) (sheet : Sheet) : Type 0 where
  pub plain : All (All IsPlain) sheet
  pub read : sheet_of text ≡ sheet

-- the names of the columns, where they are asked for
abbrev pub header_sheet : Heading → List (List ℕ) → Sheet
header_sheet Without names = []
header_sheet Names names = names ∷ []
