-- Commands: what is given with one as a value, or isn't.
use Rattle.std.specs.Prelude.{ℕ, List, Option, option_map}
use Rattle.std.specs.Borrow.{Bor}

-- the name that is given, if one is
abbrev pub name_of : Option (Bor (List ℕ)) → Option (List ℕ)
name_of = option_map (λ name. name.now)
