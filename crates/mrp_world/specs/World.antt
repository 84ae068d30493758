-- The world itself, and what it shows of a run.
use Rattle.std.specs.Prelude.{◌≡◌, ℕ, ◌<◌, List, [], ◌++◌, length, slice_index_or}
use Rattle.mrp_master_data.specs.Table.{Table}
use Rattle.mrp_net.specs.Lanes.{lanes}
use Rattle.mrp_loops.specs.Sized.{IsSized}
use Rattle.mrp_world.specs.Mailbox.{Held}
use Rattle.mrp_protocol.specs.State.{State, IsReached}
use Rattle.mrp_world.specs.Showing.{Showing}

abbrev pub nothing_held : Held
nothing_held = record { records = []; room = 0 }

-- the mailbox of a lane
abbrev pub box_at : List Held → ℕ → Held
box_at boxes l = slice_index_or boxes l nothing_held

-- each plant shows the state
pub record PlantsShow {A : Type 0} (shows : Showing A) (N : Table) (plants : List A) (s : State) : Type 0 where
  pub all : length plants ≡ length N.plants
  pub each : (p : ℕ) (d : A) → p < length plants → shows N p s (slice_index_or plants p d)

-- the network, how many records a mailbox may hold, the plants by number, the mailboxes by lane, and how
-- many steps are left
pub record WorldState (A : Type 0) : Type 0 where
  pub network : Table
  pub capacity : ℕ
  pub plants : List A
  pub boxes : List Held
  pub left : ℕ

-- a world shows a state of its network's runs: the network can be planned, events lead to the state, each plant shows
-- it, and each mailbox holds what has been sent and not yet taken
pub record Shows {A : Type 0} (shows : Showing A) (w : WorldState A) (s : State) : Type 0 where
  pub sized : IsSized w.network
  pub reached : IsReached w.network w.capacity s
  pub plants : PlantsShow shows w.network w.plants s
  pub boxes : (l : ℕ) → l < length (lanes w.network) → s.sent l ≡ s.taken l ++ (box_at w.boxes l).records
