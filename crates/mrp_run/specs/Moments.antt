-- The run by threads: one of its moments, by the states that its plants stand in, and what lies between them.
use Rattle.std.specs.Prelude.{◌≡◌, ℕ, ◌<◌, ◌≤◌, List, ◌++◌, length, All, Contains}
use Rattle.mrp_master_data.specs.Table.{Table}
use Rattle.mrp_net.specs.Lanes.{lanes, lane_at}
use Rattle.mrp_loops.specs.Sized.{IsSized}
use Rattle.mrp_record.specs.declared.record.Record.{Record}
use Rattle.mrp_readiness.specs.Progress.{is_planned}
use Rattle.mrp_protocol.specs.State.{State, IsReached}
use Rattle.mrp_protocol.specs.LocalLaws.{IsPairAt}
use Rattle.mrp_lane.specs.Ends.{End}
use Rattle.mrp_lane.specs.Views.{AreStamped, IsLegal}
use Rattle.mrp_agent.specs.State.{AgentState, pair_place}
use Rattle.mrp_run.specs.Plant.{AtWork}

-- of these ends two are those of the lane, in order, as the rule of its mailbox says: what one sent is what the other
-- has taken and then what lies in the mailbox, stamps too; it is a legal beginning
pub record IsInOrder (N : Table) (capacity l : ℕ) (sends takes : List End) : Type 0 where
  pub send : End
  pub take : End
  pub sends_it : Contains sends send
  pub takes_it : Contains takes take
  pub send_lane : send.name.lane ≡ l
  pub take_lane : take.name.lane ≡ l
  pub mailbox : List Record
  pub whole : send.list ≡ take.list ++ mailbox
  pub stamps : AreStamped send.stamps take.stamps (length mailbox)
  pub legal : IsLegal N l send.list
  pub room : length mailbox ≤ capacity

-- the state has what went through the ends of all plants, and the pairs planned that their agents have planned
pub record IsShown (N : Table) (agents : ℕ → AgentState) (sends takes : ℕ → List End) (s : State) : Type 0 where
  pub sent : (p : ℕ) → p < length N.plants → All (λ e. s.sent e.name.lane ≡ e.list) (sends p)
  pub taken : (p : ℕ) → p < length N.plants → All (λ e. s.taken e.name.lane ≡ e.list) (takes p)
  pub planned : (p : ℕ) → p < length N.plants → (x : ℕ) → IsPairAt N p x
      → s.planned x ≡ is_planned (agents p).progress.planned (pair_place (agents p).view x)

-- wherever each plant is at work and the two ends of each lane are in order, some events lead to a state with exactly
-- what the plants show
abbrev pub MomentsAreReached : Type 0
MomentsAreReached =
    (N : Table) → IsSized N → (agents : ℕ → AgentState) (sends takes : ℕ → List End)
    → ((p : ℕ) → p < length N.plants → AtWork N p (agents p) (sends p) (takes p))
    → (capacity : ℕ) → 1 ≤ capacity
    → ((l : ℕ) → l < length (lanes N)
    → IsInOrder N capacity l (sends (lane_at N l).sender.0) (takes (lane_at N l).receiver.0))
    → (s : State) × IsReached N capacity s × IsShown N agents sends takes s
