-- The run by threads: the lanes of a network dealt to its plants' threads. Each plant has the sender's end of each
-- lane that goes from it and the receiver's end of each that comes to it, in lane order.
use Rattle.std.specs.Prelude.{◌≡◌, ℕ, zero, suc, ◌<◌, Bool, List, [], ◌∷◌, ◌++◌, min, length, filter, slice_index_or}
use Rattle.std.specs.Prelude.{All, Contains}
use Rattle.mrp_master_data.specs.Table.{Table}
use Rattle.mrp_net.specs.Lanes.{lanes, lane_at}
use Rattle.mrp_net.specs.Texts.{longest_text}
use Rattle.mrp_plant_view.specs.View.{comes_to, goes_from, plant_rows}
use Rattle.mrp_loops.specs.Within.{plan_at}
use Rattle.mrp_protocol.specs.LocalLaws.{IsPairAt}
use Rattle.mrp_protocol.specs.State.{opening_state}
use Rattle.mrp_history.specs.History.{IsPrefix}
use Rattle.mrp_lane.specs.Ends.{AreOfOneLane, End, HasLegalList, Name}
use Rattle.mrp_lane.specs.Reconciled.{Carried, ShowsEnds}
use Rattle.mrp_agent.specs.Shows.{ShowsHistory}
use Rattle.mrp_agent.specs.State.{AgentState, plans_of}
use Rattle.mrp_run.specs.declared.plant.Plant.{Plant}
use Rattle.mrp_run.specs.Plant.{IsClosed, names}
use Rattle.mrp_run.specs.Steps.{PlantWorks, PlantIsDone}

-- what holds of each element and its place
abbrev pub EachAt : {X : Type 0} → (ℕ → X → Type 0) → List X → Type 0
EachAt {X} P xs = (k : ℕ) (d : X) → k < length xs → P k (slice_index_or xs k d)

-- a name for each of the first lanes of a network, in lane order
abbrev pub AreNames : Table → ℕ → List Name → Type 0
AreNames N zero ns = ns ≡ []
AreNames N (suc l) ns = (before : List Name) × (n : Name) × (ns ≡ before ++ n ∷ []) × (n.lane ≡ l) × (n.network ≡ N)
    × AreNames N l before

-- a lane of that name goes from the plant, or comes to it
abbrev pub is_from : Table → ℕ → Name → Bool
is_from N p n = goes_from N p n.lane

abbrev pub is_to : Table → ℕ → Name → Bool
is_to N p n = comes_to N p n.lane

-- nothing went through an end
pub record IsEmpty (e : End) : Type 0 where
  pub list : e.list ≡ []
  pub stamps : e.stamps ≡ []

-- of the lanes with the first names the plant has the sender's ends of those that go from it, and of the
-- lanes with the second names the receiver's ends of those that come to it
pub record IsDealt (N : Table) (sends takes : List Name) (p : ℕ) (P : Plant) : Type 0 where
  pub sends_are : names P.sends.items ≡ filter (is_from N p) sends
  pub takes_are : names P.takes.items ≡ filter (is_to N p) takes

-- ---- dealing

-- before the first turn, with the ends of the lanes of these names: the agent sees its plant and shows that
-- nothing was sent, taken or planned, and nothing went through an end
pub record IsIdle (N : Table) (sends takes : List Name) (p : ℕ) (P : Plant) : Type 0 where
  pub dealt : IsDealt N sends takes p P
  pub view : P.agent.view ≡ plant_rows N p
  pub opens : ShowsHistory P.agent opening_state.sent opening_state.taken opening_state.planned
  pub sent : All IsEmpty P.sends.items
  pub taken : All IsEmpty P.takes.items

pub record AreIdle (N : Table) (sends takes : List Name) (plants : List Plant) : Type 0 where
  pub all_plants : length plants ≡ length N.plants
  pub each : EachAt (IsIdle N sends takes) plants

-- a mailbox has room for so many records, or for the longest text of its lane where that is less
abbrev pub HasMailboxRoom : Table → ℕ → Name → Type 0
HasMailboxRoom N capacity n = n.room ≡ min capacity (longest_text N (lane_at N n.lane))

-- both ends of the first lanes are dealt
pub record HaveFirst (N : Table) (capacity count : ℕ) (plants : List Plant) : Type 0 where
  pub names : List Name
  pub first_lanes : AreNames N count names
  pub rooms : All (HasMailboxRoom N capacity) names
  pub idle : AreIdle N names names plants

-- ---- all plants of a network

-- there are names for the ends of all lanes, and with them each plant is as is said
pub record AreEach (Is : List Name → ℕ → Plant → Type 0) (N : Table) (plants : List Plant) : Type 0 where
  pub names : List Name
  pub all_lanes : AreNames N (length (lanes N)) names
  pub all_plants : length plants ≡ length N.plants
  pub each : EachAt (Is names) plants

-- before the first turn: the ends of all lanes are dealt, and each plant is at work
pub record IsReadyPlant (N : Table) (ns : List Name) (p : ℕ) (P : Plant) : Type 0 where
  pub dealt : IsDealt N ns ns p P
  pub works : PlantWorks N p P

abbrev pub AreReady : Table → List Plant → Type 0
AreReady N plants = AreEach (IsReadyPlant N) N plants

-- the mailboxes of a plant's lanes have their rooms
pub record HaveMailboxRoom (N : Table) (capacity : ℕ) (P : Plant) : Type 0 where
  pub sends : All (HasMailboxRoom N capacity) (names P.sends.items)
  pub takes : All (HasMailboxRoom N capacity) (names P.takes.items)

-- after the joins: the plants have the same ends, and each has finished
pub record IsThrough (N : Table) (ns : List Name) (p : ℕ) (P : Plant) : Type 0 where
  pub dealt : IsDealt N ns ns p P
  pub works : PlantWorks N p P
  pub finished : PlantIsDone N p P

abbrev pub AreThrough : Table → List Plant → Type 0
AreThrough N plants = AreEach (IsThrough N) N plants

-- ---- pairing

-- the agent has the plans of its plant's pairs
pub record HasPlans (N : Table) (p : ℕ) (A : AgentState) : Type 0 where
  pub view : A.view ≡ plant_rows N p
  pub plans : (x : ℕ) → IsPairAt N p x → plans_of A x ≡ plan_at N x

-- while the ends are paired: those of these names are there yet, and all of them are closed
pub record HasEnded (N : Table) (sends takes : List Name) (p : ℕ) (P : Plant) : Type 0 where
  pub dealt : IsDealt N sends takes p P
  pub sent : All IsClosed P.sends.items
  pub taken : All IsClosed P.takes.items
  pub plans : HasPlans N p P.agent

pub record HaveEnded (N : Table) (sends takes : List Name) (plants : List Plant) : Type 0 where
  pub all_plants : length plants ≡ length N.plants
  pub each : EachAt (HasEnded N sends takes) plants

-- both ends of the first lanes are there yet
pub record HaveLeft (N : Table) (count : ℕ) (plants : List Plant) : Type 0 where
  pub names : List Name
  pub first_lanes : AreNames N count names
  pub ended : HaveEnded N names names plants

pub record HavePlans (N : Table) (plants : List Plant) : Type 0 where
  pub all_plants : length plants ≡ length N.plants
  pub each : EachAt (λ p P. HasPlans N p P.agent) plants

-- the end is one of the sender's ends of the plant, or of its receiver's ends
abbrev pub IsSendEndOf : List Plant → ℕ → End → Type 0
IsSendEndOf plants p e = (p < length plants) × ((d : Plant) → Contains (slice_index_or plants p d).sends.items e)

abbrev pub IsTakeEndOf : List Plant → ℕ → End → Type 0
IsTakeEndOf plants p e = (p < length plants) × ((d : Plant) → Contains (slice_index_or plants p d).takes.items e)

-- two ends of a lane, which its plants have; the closing record went through both
pub record AreEndsOf (N : Table) (plants : List Plant) (l : ℕ) (send take : End) : Type 0 where
  pub sends_it : IsSendEndOf plants (lane_at N l).sender.0 send
  pub takes_it : IsTakeEndOf plants (lane_at N l).receiver.0 take
  pub network : send.name.network ≡ N
  pub lane : send.name.lane ≡ l
  pub same : AreOfOneLane send take
  pub closed : IsClosed take

-- of the ends of each plant the last ones may have been taken
pub record HasLeftOf (before now : Plant) : Type 0 where
  pub sends : IsPrefix now.sends.items before.sends.items
  pub takes : IsPrefix now.takes.items before.takes.items

pub record HaveLeftOf (before now : List Plant) : Type 0 where
  pub size : length now ≡ length before
  pub each : (k : ℕ) (d : Plant) → k < length before → HasLeftOf (slice_index_or before k d) (slice_index_or now k d)

-- what is answered of a lane is made of two ends of its plants
pub record IsOfEnds (N : Table) (plants : List Plant) (l : ℕ) (r : Carried) : Type 0 where
  pub send : End
  pub take : End
  pub ends : AreEndsOf N plants l send take
  pub shows : ShowsEnds send take r
  pub legal : HasLegalList send

-- of all lanes, in lane order
pub record AreOfEnds (N : Table) (plants : List Plant) (rs : List Carried) : Type 0 where
  pub all : length rs ≡ length (lanes N)
  pub each : EachAt (IsOfEnds N plants) rs
