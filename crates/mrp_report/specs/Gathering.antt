-- Reports: rows of the plan, or of pegs, that gather in a room before they are sent.
use Rattle.std.specs.Prelude.{◌≡◌, ℕ, List, ◌++◌, Option}
use Rattle.std.specs.Io.KnownBytes.{Appends}

-- what waited and then the text is what was sent and then what waits now
pub record Gathers (old new : Option (List ℕ)) (before after text : List ℕ) : Type 0 where
  pub sent : List ℕ
  pub written : Appends old new sent
  pub kept : before ++ text ≡ sent ++ after
