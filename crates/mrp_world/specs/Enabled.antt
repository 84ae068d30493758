-- The world: how many events of a list it takes, those that are enabled, each in its turn.
use Rattle.std.specs.Prelude.{◌≡◌, ℕ, ◌+◌, List, [], ◌∷◌, ◌⊎◌}
use Rattle.mrp_master_data.specs.Table.{Table}
use Rattle.mrp_protocol.specs.declared.event.Event.{Event}
use Rattle.mrp_protocol.specs.State.{State, Step, IsEnabled}

-- an event that is enabled counts one; one that isn't changes nothing and counts none
abbrev pub CountsOne : Table → ℕ → State → Event → ℕ → State → Type 0
CountsOne N capacity s event n t = (Step N capacity s event t × (n ≡ 1))
    ⊎ (¬ IsEnabled N capacity s event × (t ≡ s) × (n ≡ 0))

-- the events lead from s to t, and so many of them are enabled
abbrev pub CountsEnabled : Table → ℕ → State → List Event → ℕ → State → Type 0
CountsEnabled N capacity s [] n t = (t ≡ s) × (n ≡ 0)
CountsEnabled N capacity s (event ∷ events) n t =
    (next : State) × (one : ℕ) × (more : ℕ)
    × CountsOne N capacity s event one next × CountsEnabled N capacity next events more t × (n ≡ one + more)
