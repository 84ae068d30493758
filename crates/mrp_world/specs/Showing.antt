-- The world: which states of a network one of its plants shows.
use Rattle.std.specs.Prelude.{ℕ}
use Rattle.mrp_master_data.specs.Table.{Table}
use Rattle.mrp_protocol.specs.State.{State}

-- which states of a network a plant with a number shows
abbrev pub Showing : Type 0 → Type 1
Showing A = Table → ℕ → State → A → Type 0
