-- Histories: their stamps, each the sender's clock at a record that went over a lane. A plant that takes a record has
-- its clock beyond the record's stamp from then on.
use Rattle.std.specs.Prelude.{◌≡◌, ℕ, ◌+◌, ◌<◌, ◌≤◌, List, ◌++◌, length, slice_index, sum_by, All, Contains}
use Rattle.mrp_master_data.specs.Table.{Table}
use Rattle.mrp_net.specs.Lanes.{lanes, lane_at}
use Rattle.mrp_record.specs.declared.record.Record.{Record}
use Rattle.mrp_record.specs.Text.{IsBeginning}
use Rattle.mrp_protocol.specs.Loads.{loads}
use Rattle.mrp_protocol.specs.State.{State}
use Rattle.mrp_history.specs.History.{IsPrefix, IsHistory}

-- ---- one plant

-- by its history the plant has come to this clock, later than the opening, and it is in this state from then on
pub record IsTimed (N : Table) (p : ℕ) (history : ℕ → State) (clock : ℕ) (s : State) : Type 0 where
  pub is : IsHistory N p history
  pub now : (n : ℕ) → clock ≤ n → history n ≡ s
  pub begun : 1 ≤ clock

-- all records that it has sent over a lane, each with a stamp: at each moment later than that it has been sent
pub record SentAt (history : ℕ → State) (l : ℕ) (list : List Record) (stamps : List ℕ) : Type 0 where
  pub size : length stamps ≡ length list
  pub prefix : (n : ℕ) → IsPrefix ((history n).sent l) list
  pub sent : (n k : ℕ) → k < length list → slice_index stamps k < n → k < length ((history n).sent l)

-- all records that it has taken from a lane, each with a stamp: it has been taken at no moment but later than that
pub record TakenAt (history : ℕ → State) (l : ℕ) (list : List Record) (stamps : List ℕ) : Type 0 where
  pub size : length stamps ≡ length list
  pub prefix : (n : ℕ) → IsPrefix ((history n).taken l) list
  pub taken : (n k : ℕ) → k < length ((history n).taken l) → slice_index stamps k < n

-- what went over a lane at one of its ends: all records, and the stamp of each
pub record Passage : Type 0 where
  pub lane : ℕ
  pub list : List Record
  pub stamps : List ℕ

-- a clock later than all stamps at the ends of a plant
abbrev pub ticks : Passage → ℕ
ticks e = sum_by (λ stamp. stamp + 1) e.stamps

abbrev pub clock_of : List Passage → List Passage → ℕ
clock_of sends takes = 1 + sum_by ticks sends + sum_by ticks takes

-- a history of the plant explains the state that it is in and what went over its lanes: by that clock it has come to
-- the state, and the stamps are those of this history
pub record IsExplainedBy (N : Table) (p : ℕ) (s : State) (sends takes : List Passage) (history : ℕ
    → State) : Type 0 where
  pub timed : IsTimed N p history (clock_of sends takes) s
  pub sent_at : All (λ e. SentAt history e.lane e.list e.stamps) sends
  pub taken_at : All (λ e. TakenAt history e.lane e.list e.stamps) takes

abbrev pub IsExplained : Table → ℕ → State → List Passage → List Passage → Type 0
IsExplained N p s sends takes = (history : ℕ → State) × IsExplainedBy N p s sends takes history

-- ---- all plants

-- of the ends of a lane one is its sender's and one its receiver's: what the one sent is a legal beginning, and it is
-- what the other has taken and then what waits, stamps too
pub record IsJoined (N : Table) (l : ℕ) (sends takes : List Passage) : Type 0 where
  pub send : Passage
  pub take : Passage
  pub sends_it : Contains sends send
  pub takes_it : Contains takes take
  pub send_lane : send.lane ≡ l
  pub take_lane : take.lane ≡ l
  pub waits : List Record
  pub waits_at : List ℕ
  pub lists : send.list ≡ take.list ++ waits
  pub stamps : send.stamps ≡ take.stamps ++ waits_at
  pub legal : IsBeginning (loads N (lane_at N l)) send.list

-- the states of the plants and what went over their lanes: each plant is explained by some history, and each lane is
-- joined
pub record AreExplained (N : Table) (states : ℕ → State) (sends takes : ℕ → List Passage) : Type 0 where
  pub each : (p : ℕ) → p < length N.plants → IsExplained N p (states p) (sends p) (takes p)
  pub joined : (l : ℕ) → l < length (lanes N)
      → IsJoined N l (sends (lane_at N l).sender.0) (takes (lane_at N l).receiver.0)
