-- The world: what calls over its plants and mailboxes answer, and what follows for the world that is made of them.
use Rattle.std.specs.Prelude.{◌≡◌, ℕ, ◌<◌, ◌≤◌, min, Bool, List, ◌++◌, length, MatchBool}
use Rattle.mrp_master_data.specs.Table.{Table}
use Rattle.mrp_net.specs.Lanes.{lanes, lane_at}
use Rattle.mrp_net.specs.Texts.{longest_text}
use Rattle.mrp_loops.specs.Sized.{IsSized}
use Rattle.mrp_world.specs.Mailbox.{Held}
use Rattle.mrp_protocol.specs.declared.event.Event.{Event}
use Rattle.mrp_protocol.specs.declared.event.Event.TheVariants.{Send, Receive, Plan}
use Rattle.mrp_protocol.specs.Progress.{steps_left}
use Rattle.mrp_protocol.specs.State.{State, Step, Run, IsEnabled, IsReached}
use Rattle.mrp_agent.specs.OwnPart.{IsOwn}
use Rattle.mrp_world.specs.Showing.{Showing}
use Rattle.mrp_world.specs.World.{WorldState, PlantsShow, box_at}

-- each mailbox holds what has been sent and not yet taken, and has room for what it may ever hold
pub record BoxesHold (N : Table) (capacity : ℕ) (boxes : List Held) (s : State) : Type 0 where
  pub all : length boxes ≡ length (lanes N)
  pub each : (l : ℕ) → l < length (lanes N) → s.sent l ≡ s.taken l ++ (box_at boxes l).records
  pub room : (l : ℕ) → l < length (lanes N) → (box_at boxes l).room ≡ min capacity (longest_text N (lane_at N l))

-- plants and mailboxes of a sized network show a state that events lead to
pub record AreAt {A : Type 0} (shows : Showing A) (N : Table) (capacity : ℕ) (plants : List A) (boxes : List Held)
    (s : State) : Type 0 where
  pub sized : IsSized N
  pub reached : IsReached N capacity s
  pub shown : PlantsShow shows N plants s
  pub held : BoxesHold N capacity boxes s

-- they show some state
abbrev pub AreSomewhere : {A : Type 0} → Showing A → Table → List A → List Held → Type 0
AreSomewhere shows N plants boxes = (capacity : ℕ) × (s : State) × AreAt shows N capacity plants boxes s

-- the event is enabled in each state that they show, and leads to one that they show then
abbrev pub Lead : {A : Type 0} → Showing A → Table → List A → List Held → Event → List A → List Held → Type 0
Lead shows N plants boxes event new_plants new_boxes =
    (capacity : ℕ) (s : State) → AreAt shows N capacity plants boxes s
    → (t : State) × Step N capacity s event t × AreAt shows N capacity new_plants new_boxes t

-- the event is enabled in no state that they show
abbrev pub LeadNowhere : {A : Type 0} → Showing A → Table → List A → List Held → Event → Type 0
LeadNowhere shows N plants boxes event = (capacity : ℕ) (s : State) → AreAt shows N capacity plants boxes s
    → ¬ IsEnabled N capacity s event

-- a world shows a state, its mailboxes have room for what they may ever hold, and its steps are counted
pub record WorldShows {A : Type 0} (shows : Showing A) (w : WorldState A) (s : State) : Type 0 where
  pub parts : AreAt shows w.network w.capacity w.plants w.boxes s
  pub left : w.left ≡ steps_left w.network s

-- the event is enabled in each state that they show
abbrev pub MayLead : {A : Type 0} → Showing A → Table → List A → List Held → Event → Type 0
MayLead shows N plants boxes event = (capacity : ℕ) (s : State) → AreAt shows N capacity plants boxes s
    → IsEnabled N capacity s event

-- nothing has changed, and so this holds
pub record StandsStill {A : Type 0} (plants : List A) (boxes : List Held) (Holds : Type 0) (new_plants : List A)
    (new_boxes : List Held) : Type 0 where
  pub holds : Holds
  pub same_plants : new_plants ≡ plants
  pub same_boxes : new_boxes ≡ boxes

-- whether the event has happened; where it hasn't, it is enabled nowhere, and nothing has changed
abbrev pub Acts : {A : Type 0} → Showing A → Table → List A → List Held → Event → Bool → List A → List Held → Type 0
Acts shows N plants boxes event acted new_plants new_boxes =
    MatchBool acted (Lead shows N plants boxes event new_plants new_boxes)
    (StandsStill plants boxes (LeadNowhere shows N plants boxes event) new_plants new_boxes)

-- nothing can be sent or received over the lane
pub record LaneRests {A : Type 0} (shows : Showing A) (N : Table) (l : ℕ) (plants : List A)
    (boxes : List Held) : Type 0 where
  pub sends_nothing : LeadNowhere shows N plants boxes (Send (record { 0 = l }))
  pub receives_nothing : LeadNowhere shows N plants boxes (Receive (record { 0 = l }))

-- nor over the lanes from one number up to another
abbrev pub LanesRest : {A : Type 0} → Showing A → Table → ℕ → ℕ → List A → List Held → Type 0
LanesRest shows N from to plants boxes = (l : ℕ) → from ≤ l → l < to → LaneRests shows N l plants boxes

-- no pair of the plant can be planned
abbrev pub PlantRests : {A : Type 0} → Showing A → Table → ℕ → List A → List Held → Type 0
PlantRests shows N p plants boxes = (x : ℕ) → IsOwn N p x → LeadNowhere shows N plants boxes (Plan (record { 0 = x }))

-- nor one of the plants from one number up to another
abbrev pub PlantsRest : {A : Type 0} → Showing A → Table → ℕ → ℕ → List A → List Held → Type 0
PlantsRest shows N from to plants boxes = (p : ℕ) → from ≤ p → p < to → PlantRests shows N p plants boxes

-- no event is enabled
abbrev pub AllRests : {A : Type 0} → Showing A → Table → List A → List Held → Type 0
AllRests shows N plants boxes = (event : Event) → LeadNowhere shows N plants boxes event

-- a mailbox may hold one record at least, and the world shows some state
pub record IsWorld {A : Type 0} (shows : Showing A) (w : WorldState A) : Type 0 where
  pub holds : 1 ≤ w.capacity
  pub state : State
  pub shown : WorldShows shows w state

-- from each state that the world showed the events lead to one that it shows now, in the same network with
-- the same capacity
pub record Runs {A : Type 0} (shows : Showing A) (old : WorldState A) (events : List Event)
    (new : WorldState A) : Type 0 where
  pub network : new.network ≡ old.network
  pub capacity : new.capacity ≡ old.capacity
  pub runs : (s : State) → WorldShows shows old s → (t : State) × Run old.network old.capacity s events t
      × WorldShows shows new t
