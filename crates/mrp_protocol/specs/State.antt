-- The protocol: the states between the plants of a network, and the events that lead from one to another.
use Rattle.std.specs.Prelude.{◌≡◌, ℕ, ◌+◌, ◌<◌, ◌==◌, Bool, true, false, if◌then◌else◌, List, [], ◌∷◌, ◌++◌, length}
use Rattle.std.specs.Prelude.{Contains, ◌⊎◌}
use Rattle.mrp_master_data.specs.declared.numbers.ItemNo.{ItemNo}
use Rattle.mrp_master_data.specs.Table.{Table, IsPair}
use Rattle.mrp_net.specs.declared.lane.Lane.{Lane}
use Rattle.mrp_net.specs.declared.lane.LaneKind.TheVariants.{Schedule}
use Rattle.mrp_net.specs.Lanes.{lanes, lane_at, lane_items, pair_on}
use Rattle.mrp_net.specs.Sums.{pair_at}
use Rattle.mrp_loops.specs.Loop.{HasEdge}
use Rattle.mrp_record.specs.declared.record.Record.{Record}
use Rattle.mrp_record.specs.Entries.{Entry, content, contents, is_of, is_ended, is_closed}
use Rattle.mrp_record.specs.Text.{IsBeginning}
use Rattle.mrp_protocol.specs.declared.event.Event.{Event}
use Rattle.mrp_protocol.specs.declared.event.Event.TheVariants.{Send, Receive, Plan}
use Rattle.mrp_protocol.specs.Loads.{loads}

-- what has been sent and what has been taken on each lane, and which pairs are planned
pub record State : Type 0 where
  pub sent : ℕ → List Record
  pub taken : ℕ → List Record
  pub planned : ℕ → Bool

-- before the first event
abbrev pub opening_state : State
opening_state = record { sent = λ _. []; taken = λ _. []; planned = λ _. false }

-- ---- sending

-- on a schedule lane an item has records only after its customer's pair is planned
abbrev pub IsDecided : Table → (ℕ → Bool) → Lane → Entry → Type 0
IsDecided N planned lane entry =
    (item : ItemNo) → is_of item.0 entry ≡ true → lane.kind ≡ Schedule → planned (pair_on N lane item) ≡ true

-- a lane's next record: what has been sent stays a legal beginning, and the mailbox, what has been sent
-- and not yet taken, has room
pub record CanSend (N : Table) (capacity : ℕ) (s : State) (l : ℕ) (r : Record) : Type 0 where
  pub lane : l < length (lanes N)
  pub legal : IsBeginning (loads N (lane_at N l)) (s.sent l ++ r ∷ [])
  pub decided : IsDecided N s.planned (lane_at N l) (content r)
  pub room : length (s.sent l) < length (s.taken l) + capacity

-- ---- receiving

-- the first record that has been sent and not yet taken
pub record CanTake (N : Table) (s : State) (l : ℕ) (r : Record) : Type 0 where
  pub lane : l < length (lanes N)
  pub rest : List Record
  pub next : s.sent l ≡ s.taken l ++ r ∷ rest

-- ---- planning

-- a lane that arrives at the plant with the item has brought the item's whole block
abbrev pub HasBrought : Table → (ℕ → List Record) → ℕ → ItemNo → ℕ → Type 0
HasBrought N taken plant item l =
    (lane_at N l).receiver.0 ≡ plant → Contains (lane_items N (lane_at N l)) item
    → is_ended item.0 (contents (taken l)) ≡ true

-- the pair's demanders at its own plant are planned, and each lane to the plant has brought what it has of
-- the item: the schedule lanes of its customers and the despatch lanes of its sources
pub record IsReady (N : Table) (planned : ℕ → Bool) (taken : ℕ → List Record) (x : ℕ) : Type 0 where
  pub demanders : (y : ℕ) → HasEdge N y x → (pair_at N y).plant.0 ≡ (pair_at N x).plant.0 → planned y ≡ true
  pub brought : (l : ℕ) → l < length (lanes N) → HasBrought N taken (pair_at N x).plant.0 (pair_at N x).item l

-- a pair that is ready and isn't planned yet
pub record CanPlan (N : Table) (s : State) (x : ℕ) : Type 0 where
  pub pair : IsPair N x
  pub unplanned : s.planned x ≡ false
  pub ready : IsReady N s.planned s.taken x

-- ---- events

-- one value changed
abbrev pub changed : {X : Type 0} → (ℕ → X) → ℕ → X → ℕ → X
changed values at value k = if k == at then value else values k

abbrev pub after_send : State → ℕ → Record → State
after_send s l r = record s { sent = changed s.sent l (s.sent l ++ r ∷ []) }

abbrev pub after_take : State → ℕ → Record → State
after_take s l r = record s { taken = changed s.taken l (s.taken l ++ r ∷ []) }

abbrev pub after_plan : State → ℕ → State
after_plan s x = record s { planned = changed s.planned x true }

-- the event is enabled at s and leads to t
abbrev pub Step : Table → ℕ → State → Event → State → Type 0
Step N capacity s (Send l) t = (r : Record) × CanSend N capacity s l.0 r × (t ≡ after_send s l.0 r)
Step N capacity s (Receive l) t = (r : Record) × CanTake N s l.0 r × (t ≡ after_take s l.0 r)
Step N capacity s (Plan x) t = CanPlan N s x.0 × (t ≡ after_plan s x.0)

abbrev pub IsEnabled : Table → ℕ → State → Event → Type 0
IsEnabled N capacity s event = (t : State) × Step N capacity s event t

-- an event that isn't enabled changes nothing
abbrev pub Happens : Table → ℕ → State → Event → State → Type 0
Happens N capacity s event t = Step N capacity s event t ⊎ (¬ IsEnabled N capacity s event × (t ≡ s))

-- any list of events, enabled or not, leads from s to t
abbrev pub Run : Table → ℕ → State → List Event → State → Type 0
Run N capacity s [] t = t ≡ s
Run N capacity s (event ∷ events) t = (next : State) × Happens N capacity s event next × Run N capacity next events t

-- some events lead there
abbrev pub IsReached : Table → ℕ → State → Type 0
IsReached N capacity s = (events : List Event) × Run N capacity opening_state events s

-- each lane's closing record is taken, and each pair is planned
pub record IsFinished (N : Table) (s : State) : Type 0 where
  pub closed : (l : ℕ) → l < length (lanes N) → is_closed (contents (s.taken l)) ≡ true
  pub planned : (x : ℕ) → IsPair N x → s.planned x ≡ true
