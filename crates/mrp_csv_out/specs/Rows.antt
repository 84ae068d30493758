-- CSV output: rows as bytes, as each report is made of them.
use Rattle.std.specs.Prelude.{ℕ, List, [], ◌∷◌, ◌++◌}
use Rattle.std.specs.List.{join_with_byte}
use Rattle.csv.specs.Machine.{line_feed}
use Rattle.csv.specs.Writing.{comma}

-- a row: its fields with commas between them, and a line feed at the end. No field gets quotes: names,
-- numbers, dates and the words of a report have no comma, no quote and no line end
unfoldable pub row : List (List ℕ) → List ℕ
row fields = join_with_byte comma fields ++ line_feed ∷ []
