-- The protocol: whether one of its events is enabled is always settled, so each list of events has a run.
use Rattle.std.specs.Prelude.{ℕ, List, [], ◌∷◌, ◌++◌, ◌⊎◌}
use Rattle.mrp_master_data.specs.Table.{Table, IsTable}
use Rattle.mrp_protocol.specs.declared.event.Event.{Event}
use Rattle.mrp_protocol.specs.State.{State, opening_state, IsEnabled, Happens, Run, IsReached}

-- in each state that events lead to an event is enabled or isn't
abbrev pub EventsAreDecided : Type 0
EventsAreDecided =
    (N : Table) → IsTable N → (capacity : ℕ) (s : State) → IsReached N capacity s → (event : Event)
    → IsEnabled N capacity s event ⊎ ¬ IsEnabled N capacity s event

-- so each list of events leads somewhere
abbrev pub EveryListRuns : Type 0
EveryListRuns =
    (N : Table) → IsTable N → (capacity : ℕ) (events : List Event) → (s : State) × Run N capacity opening_state events s

-- ---- runs go on

-- what happens after a run makes it longer
abbrev pub RunsGoOn : Type 0
RunsGoOn =
    (N : Table) (capacity : ℕ) (s t next : State) (events : List Event) (event : Event)
    → Run N capacity s events t → Happens N capacity t event next → Run N capacity s (events ++ event ∷ []) next

-- so the states that events lead to are the opening state and what happens after one of them leads to
abbrev pub OpeningIsReached : Type 0
OpeningIsReached = (N : Table) (capacity : ℕ) → IsReached N capacity opening_state

abbrev pub ReachedGoesOn : Type 0
ReachedGoesOn =
    (N : Table) (capacity : ℕ) (s t : State) (event : Event) → IsReached N capacity s → Happens N capacity s event t
    → IsReached N capacity t
