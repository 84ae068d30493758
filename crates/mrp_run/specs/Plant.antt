-- The run by threads: a plant at work in its thread, with its agent, and the ends of its lanes.
use Rattle.std.specs.Prelude.{◌≡◌, ℕ, true, List, map, filter, All}
use Rattle.mrp_master_data.specs.Table.{Table}
use Rattle.mrp_plant_view.specs.View.{comes_to, goes_from, lane_numbers}
use Rattle.mrp_loops.specs.Sized.{IsSized}
use Rattle.mrp_loops.specs.Within.{plan_at}
use Rattle.mrp_record.specs.declared.record.Record.{Record}
use Rattle.mrp_record.specs.Entries.{contents, is_closed}
use Rattle.mrp_protocol.specs.State.{State}
use Rattle.mrp_history.specs.Stamps.{Passage, IsExplained, clock_of}
use Rattle.mrp_protocol.specs.LocalLaws.{IsPairAt}
use Rattle.mrp_lane.specs.Ends.{End, Name}
use Rattle.mrp_agent.specs.InNetwork.{WorksIn}
use Rattle.mrp_agent.specs.Shows.{is_done}
use Rattle.mrp_agent.specs.State.{AgentState, plans_of}

-- ---- at work

-- the lanes that go from a plant, and those that come to it, in lane order
abbrev pub lanes_from : Table → ℕ → List ℕ
lanes_from N p = filter (goes_from N p) (lane_numbers N)

abbrev pub lanes_to : Table → ℕ → List ℕ
lanes_to N p = filter (comes_to N p) (lane_numbers N)

-- these are ends of these lanes of the network, in this order, and what went through each is its lane's list
pub record AreEnds (N : Table) (numbers : List ℕ) (texts : ℕ → List Record) (ends : List End) : Type 0 where
  pub network : All (λ e. e.name.network ≡ N) ends
  pub lanes : map (λ e. e.name.lane) ends ≡ numbers
  pub lists : All (λ e. e.list ≡ texts e.name.lane) ends

-- an end as histories see it: its lane, what went through it, and the stamps of that
abbrev pub passage : End → Passage
passage e = record { lane = e.name.lane; list = e.list; stamps = e.stamps }

abbrev pub passages : List End → List Passage
passages ends = map passage ends

-- the clock of a plant with these ends: later than the stamp of each record that went through one of them
abbrev pub clock_at : List End → List End → ℕ
clock_at sends takes = clock_of (passages sends) (passages takes)

-- a plant of a sized network: its agent works there in some state, and what is sent and taken in that state went
-- through the ends of its lanes; by its clock it has come to the state in logical time
pub record AtWork (N : Table) (p : ℕ) (A : AgentState) (sends takes : List End) : Type 0 where
  pub sized : IsSized N
  pub state : State
  pub works : WorksIn N p state A
  pub sends_are : AreEnds N (lanes_from N p) state.sent sends
  pub takes_are : AreEnds N (lanes_to N p) state.taken takes
  pub explained : IsExplained N p state (passages sends) (passages takes)

-- it is at work as some plant of some network
abbrev pub IsAtWork : AgentState → List End → List End → Type 0
IsAtWork A sends takes = (N : Table) × (p : ℕ) × AtWork N p A sends takes

-- ---- finished

-- the closing record went through the end
abbrev pub IsClosed : End → Type 0
IsClosed e = is_closed (contents e.list) ≡ true

-- the agent is done, all its lanes are closed, each of its pairs is planned, in whatever state it is at work, and has
-- the plan of the network
pub record AgentIsDone (N : Table) (p : ℕ) (A : AgentState) (sends takes : List End) : Type 0 where
  pub done : is_done A ≡ true
  pub sent : All IsClosed sends
  pub taken : All IsClosed takes
  pub planned : (w : AtWork N p A sends takes) (x : ℕ) → IsPairAt N p x → w.state.planned x ≡ true
  pub plans : (x : ℕ) → IsPairAt N p x → plans_of A x ≡ plan_at N x

-- ---- what work keeps

abbrev pub names : List End → List Name
names ends = map (λ e. e.name) ends

-- the plant sees the same, its ends are the same, and wherever it was at work it is
pub record Kept (A : AgentState) (sends_then takes_then : List End) (B : AgentState)
    (sends_now takes_now : List End) : Type 0 where
  pub view : B.view ≡ A.view
  pub sends : names sends_now ≡ names sends_then
  pub takes : names takes_now ≡ names takes_then
  pub works : (N : Table) (p : ℕ) → AtWork N p A sends_then takes_then → AtWork N p B sends_now takes_now

-- and wherever it was at work it has finished
abbrev pub HasFinished : AgentState → List End → List End → AgentState → List End → List End → Type 0
HasFinished A sends takes B sends_now takes_now =
    (N : Table) (p : ℕ) → AtWork N p A sends takes → AgentIsDone N p B sends_now takes_now
