-- Histories: the states of a plant one after the other, in its own logical time, and histories of all plants that agree
-- over each lane. Of a state of a plant only its own lanes and pairs count.
use Rattle.std.specs.Prelude.{◌≡◌, ℕ, suc, ◌+◌, ◌<◌, ◌≤◌, Bool, true, List, ◌++◌, length, All}
use Rattle.mrp_master_data.specs.Table.{Table, IsPair}
use Rattle.mrp_net.specs.Lanes.{lanes, lane_at}
use Rattle.mrp_net.specs.Sums.{pair_at}
use Rattle.mrp_record.specs.declared.record.Record.{Record}
use Rattle.mrp_record.specs.Entries.{content, contents, is_closed}
use Rattle.mrp_record.specs.Text.{IsBeginning}
use Rattle.mrp_protocol.specs.Loads.{loads}
use Rattle.mrp_protocol.specs.State.{State, opening_state, IsDecided, IsReady}

-- the list begins with the other one
pub record IsPrefix {A : Type 0} (prefix whole : List A) : Type 0 where
  pub rest : List A
  pub is : whole ≡ prefix ++ rest

-- ---- one plant

-- over a lane it sends what it sent before and some records more, each of an item that may be sent by what it had
-- planned before
pub record SendsOn (N : Table) (s t : State) (l : ℕ) : Type 0 where
  pub more : List Record
  pub is : t.sent l ≡ s.sent l ++ more
  pub decided : All (λ r. IsDecided N s.planned (lane_at N l) (content r)) more

-- each pair of the plant that is planned is ready
abbrev pub PlannedAreReady : Table → ℕ → State → Type 0
PlannedAreReady N p s =
    (x : ℕ) → IsPair N x → (pair_at N x).plant.0 ≡ p → s.planned x ≡ true → IsReady N s.planned s.taken x

-- a plant goes from one moment to the next: it sends and takes some records more, what is planned stays planned, and
-- each pair that is planned then is ready
pub record Goes (N : Table) (p : ℕ) (s t : State) : Type 0 where
  pub sends : (l : ℕ) → l < length (lanes N) → (lane_at N l).sender.0 ≡ p → SendsOn N s t l
  pub takes : (l : ℕ) → l < length (lanes N) → (lane_at N l).receiver.0 ≡ p → IsPrefix (s.taken l) (t.taken l)
  pub stays : (x : ℕ) → IsPair N x → (pair_at N x).plant.0 ≡ p → s.planned x ≡ true → t.planned x ≡ true
  pub ready : PlannedAreReady N p t

-- a state for each moment, from the opening state on
pub record IsHistory (N : Table) (p : ℕ) (history : ℕ → State) : Type 0 where
  pub begins : history 0 ≡ opening_state
  pub goes : (n : ℕ) → Goes N p (history n) (history (suc n))

-- ---- all plants: a state for each plant's number

-- what has been sent over a lane by its sender, what has been taken by its receiver, and what is planned by a pair's
-- plant
abbrev pub sent_by : Table → (ℕ → State) → ℕ → List Record
sent_by N states l = (states (lane_at N l).sender.0).sent l

abbrev pub taken_in : Table → (ℕ → State) → ℕ → List Record
taken_in N states l = (states (lane_at N l).receiver.0).taken l

abbrev pub planned_by : Table → (ℕ → State) → ℕ → Bool
planned_by N states x = (states (pair_at N x).plant.0).planned x

-- the state of the network is put together of what is each plant's own
pub record IsMerged (N : Table) (states : ℕ → State) (s : State) : Type 0 where
  pub sent : (l : ℕ) → l < length (lanes N) → s.sent l ≡ sent_by N states l
  pub taken : (l : ℕ) → l < length (lanes N) → s.taken l ≡ taken_in N states l
  pub planned : (x : ℕ) → IsPair N x → s.planned x ≡ planned_by N states x

-- no mailbox holds more records than its capacity
abbrev pub HasRoom : Table → ℕ → (ℕ → State) → Type 0
HasRoom N capacity states =
    (l : ℕ) → l < length (lanes N) → length (sent_by N states l) ≤ length (taken_in N states l) + capacity

-- each lane's closing record is taken, and each pair is planned
pub record HaveFinished (N : Table) (states : ℕ → State) : Type 0 where
  pub closed : (l : ℕ) → l < length (lanes N) → is_closed (contents (taken_in N states l)) ≡ true
  pub planned : (x : ℕ) → IsPair N x → planned_by N states x ≡ true

-- ---- histories of all plants

-- the states of all plants at a moment
abbrev pub at_moment : (ℕ → ℕ → State) → ℕ → ℕ → State
at_moment histories n p = histories p n

-- histories of the plants that agree over each lane: at each moment what its sender has sent is a legal beginning, and
-- what its receiver has taken is a prefix of that
pub record AreHistories (N : Table) (histories : ℕ → ℕ → State) : Type 0 where
  pub each : (p : ℕ) → p < length N.plants → IsHistory N p (histories p)
  pub legal : (n l : ℕ) → l < length (lanes N)
      → IsBeginning (loads N (lane_at N l)) (sent_by N (at_moment histories n) l)
  pub causal : (n l : ℕ) → l < length (lanes N)
      → IsPrefix (taken_in N (at_moment histories n) l) (sent_by N (at_moment histories n) l)
