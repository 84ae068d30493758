-- The world: where its plants and mailboxes are driven to, event by event.
use Rattle.std.specs.Prelude.{ℕ, ◌+◌, ◌≤◌, Bool, List, MatchBool}
use Rattle.mrp_master_data.specs.Table.{Table}
use Rattle.mrp_protocol.specs.declared.event.Event.{Event}
use Rattle.mrp_protocol.specs.Progress.{steps_left}
use Rattle.mrp_protocol.specs.State.{State, Run}
use Rattle.mrp_world.specs.Showing.{Showing}
use Rattle.mrp_world.specs.Mailbox.{Held}
use Rattle.mrp_world.specs.Moves.{AreAt, StandsStill}

-- from each state that they show the events lead to one that they show then, with so many steps less, or more
pub record LeadOn {A : Type 0} (shows : Showing A) (N : Table) (plants : List A) (boxes : List Held) (steps : ℕ)
    (new_plants : List A) (new_boxes : List Held) : Type 0 where
  pub events : List Event
  pub runs : (capacity : ℕ) (s : State) → AreAt shows N capacity plants boxes s
      → (t : State) × Run N capacity s events t × AreAt shows N capacity new_plants new_boxes t
      × (steps_left N t + steps ≤ steps_left N s)

-- whether some event has happened; where none has, nothing has changed, and so it rests
abbrev pub Tried : {A : Type 0} → Showing A → Table → List A → List Held → (List A → List Held → Type 0) → Bool
    → List A → List Held → Type 0
Tried shows N plants boxes Rests happened new_plants new_boxes =
    MatchBool happened (LeadOn shows N plants boxes 1 new_plants new_boxes)
    (StandsStill plants boxes (Rests plants boxes) new_plants new_boxes)
