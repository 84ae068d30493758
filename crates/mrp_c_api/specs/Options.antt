-- The library for C: what the options of a call ask for.
use Rattle.std.specs.Prelude.{ℕ, Bool, true, false, List, [], ◌∷◌, Option, Some, None}
use Rattle.mrp_commands.specs.declared.choice.Heading.{Heading}
use Rattle.mrp_commands.specs.declared.choice.Heading.TheVariants.{Names, Without}
use Rattle.mrp_commands.specs.declared.reading.Reading as of_request
use Rattle.mrp_c_api.specs.declared.options.Reading as of_c
use Rattle.mrp_qty.specs.declared.limits.LimitSet.TheVariants as set

-- how the table is to be read: within the usual limits
unfoldable pub reading_of : of_c.Reading → of_request.Reading
reading_of reading = record { whole = reading.whole; limits = set.Usual }

-- the same, within the large ones
unfoldable pub large_reading_of : of_c.Reading → of_request.Reading
large_reading_of reading = record { whole = reading.whole; limits = set.Large }

-- the names of the columns
abbrev pub heading_of : Bool → Heading
heading_of true = Names
heading_of false = Without

-- the last period of a release
abbrev pub limit_of : Bool → ℕ → Option ℕ
limit_of true until = Some until
limit_of false until = None

-- a name, by its bytes: none where there are none
abbrev pub name_given : List ℕ → Option (List ℕ)
name_given [] = None
name_given (byte ∷ bytes) = Some (byte ∷ bytes)
