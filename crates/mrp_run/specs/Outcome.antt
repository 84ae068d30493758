-- The run by threads: what it comes to, which is the plan of the network, and what went over its
-- lanes, as in a run of the events.
use Rattle.std.specs.Prelude.{◌≡◌, ℕ, ◌≤◌, List, [], length}
use Rattle.mrp_master_data.specs.Table.{Table}
use Rattle.mrp_net.specs.Lanes.{lanes, lane_at}
use Rattle.mrp_net.specs.Plan.{plan_of}
use Rattle.mrp_record.specs.Text.{IsWhole}
use Rattle.mrp_protocol.specs.Loads.{loads}
use Rattle.mrp_protocol.specs.State.{State, IsFinished, IsReached}
use Rattle.mrp_lane.specs.Reconciled.{Carried, figures_on}
use Rattle.mrp_run.specs.declared.network.Outcome.{Outcome}
use Rattle.mrp_run.specs.Ends.{EachAt}

-- A lane of the network carried its whole text: the list that its sending end showed when the ends were joined is a
-- whole text of the lane. The list that its taking end showed is the same, nothing is left, and the figures are those
-- of these lists.
pub record IsSettled (N : Table) (l : ℕ) (r : Carried) : Type 0 where
  pub network : r.network ≡ N
  pub lane : r.lane ≡ l
  pub sent : IsWhole (loads N (lane_at N l)) r.sent
  pub taken : r.taken ≡ r.sent
  pub left : r.left ≡ []
  pub figures : r.figures ≡ figures_on N l r.sent r.taken

-- all lanes, in lane order
pub record AreSettled (N : Table) (lanes_of : List Carried) : Type 0 where
  pub all : length lanes_of ≡ length (lanes N)
  pub each : EachAt (IsSettled N) lanes_of

-- of each lane the state has the lists that its two ends showed
abbrev pub HasLists : List Carried → State → Type 0
HasLists lanes_of s = EachAt (λ l r. (s.sent l ≡ r.sent) × (s.taken l ≡ r.taken)) lanes_of

-- so it is in a run of the events: whatever the capacity of a mailbox, one record at least, some events lead to a
-- finished state with these lists
abbrev pub IsRun : Table → List Carried → Type 0
IsRun N lanes_of =
    (capacity : ℕ) → 1 ≤ capacity → (s : State) × IsReached N capacity s × IsFinished N s × HasLists lanes_of s

-- so it is of all lanes: each carried its whole text, and the lists are those of a run
pub record AreOfRun (N : Table) (lanes_of : List Carried) : Type 0 where
  pub lanes : AreSettled N lanes_of
  pub run : IsRun N lanes_of

-- the plans are the plan of the network, each lane carried its whole text, and the lists are those of a run of the
-- events
pub record IsOutcome (N : Table) (o : Outcome Carried) : Type 0 where
  pub plans : o.plans.items ≡ plan_of N
  pub lanes : AreSettled N o.lanes.items
  pub run : IsRun N o.lanes.items
