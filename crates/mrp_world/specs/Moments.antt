-- The world: what one of its plants shows of a run over a network, and what it can do at a moment of the run.
use Rattle.std.specs.Prelude.{◌≡◌, ℕ, ◌<◌, [], ◌∷◌, ◌++◌, length}
use Rattle.mrp_master_data.specs.Table.{Table}
use Rattle.mrp_net.specs.Lanes.{lane_at}
use Rattle.mrp_plant_view.specs.View.{PlantRows, plant_rows}
use Rattle.mrp_loops.specs.Sized.{IsSized}
use Rattle.mrp_record.specs.declared.record.Record.{Record}
use Rattle.mrp_record.specs.Entries.{content}
use Rattle.mrp_record.specs.Text.{IsBeginning}
use Rattle.mrp_protocol.specs.Loads.{loads}
use Rattle.mrp_protocol.specs.State.{State, IsDecided, IsReached}
use Rattle.mrp_world.specs.Showing.{Showing}
use Rattle.mrp_agent.specs.OwnPart.{IsOut, IsIn, IsOwn}

-- a moment of a run: the network, how many records a mailbox may hold, and the state
pub record Moment : Type 0 where
  pub network : Table
  pub capacity : ℕ
  pub state : State

-- the plant with the number shows the state, the network is sized, and events lead to the state
pub record IsAt {A : Type 0} (shows : Showing A) (m : Moment) (p : ℕ) (plant : A) : Type 0 where
  pub sized : IsSized m.network
  pub known : p < length m.network.plants
  pub reached : IsReached m.network m.capacity m.state
  pub shown : shows m.network p m.state plant

-- ---- lanes and pairs of a plant

-- the plant is at some moment at which it sends the lane, receives it, or has the pair
abbrev pub SendsLane : {A : Type 0} → Showing A → A → ℕ → Type 0
SendsLane shows plant l = (m : Moment) × (p : ℕ) × IsAt shows m p plant × IsOut m.network p l

abbrev pub Receives : {A : Type 0} → Showing A → A → ℕ → Type 0
Receives shows plant l = (m : Moment) × (p : ℕ) × IsAt shows m p plant × IsIn m.network p l

abbrev pub Has : {A : Type 0} → Showing A → A → ℕ → Type 0
Has shows plant x = (m : Moment) × (p : ℕ) × IsAt shows m p plant × IsOwn m.network p x

-- what a plant of a sized network sees
abbrev pub IsSeen : PlantRows → Type 0
IsSeen V = (N : Table) × (p : ℕ) × IsSized N × (p < length N.plants) × (V ≡ plant_rows N p)

-- ---- what can be sent

-- a record with which what was sent stays a legal beginning, and which may be spoken of; whether the
-- mailbox has room is not looked at
pub record IsNext (m : Moment) (l : ℕ) (r : Record) : Type 0 where
  pub legal : IsBeginning (loads m.network (lane_at m.network l)) (m.state.sent l ++ r ∷ [])
  pub decided : IsDecided m.network m.state.planned (lane_at m.network l) (content r)
