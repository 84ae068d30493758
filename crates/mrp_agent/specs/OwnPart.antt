-- The agent: the part of a state that is its own, the lanes and the pairs of its plant.
use Rattle.std.specs.Prelude.{◌≡◌, ℕ, ◌<◌, length}
use Rattle.mrp_master_data.specs.Table.{Table}
use Rattle.mrp_net.specs.Lanes.{lanes, lane_at}
use Rattle.mrp_protocol.specs.LocalLaws.{IsPairAt}
use Rattle.mrp_protocol.specs.State.{State}

-- the plant sends the lane
pub record IsOut (N : Table) (p l : ℕ) : Type 0 where
  pub lane : l < length (lanes N)
  pub plant : (lane_at N l).sender.0 ≡ p

-- it receives the lane
pub record IsIn (N : Table) (p l : ℕ) : Type 0 where
  pub lane : l < length (lanes N)
  pub plant : (lane_at N l).receiver.0 ≡ p

-- the pair is its own
abbrev pub IsOwn : Table → ℕ → ℕ → Type 0
IsOwn N p x = IsPairAt N p x

-- two states agree on what the plant has sent, on what it has taken and on its planned pairs
pub record AgreeAt (N : Table) (p : ℕ) (s t : State) : Type 0 where
  pub sent : (l : ℕ) → IsOut N p l → s.sent l ≡ t.sent l
  pub taken : (l : ℕ) → IsIn N p l → s.taken l ≡ t.taken l
  pub planned : (x : ℕ) → IsOwn N p x → s.planned x ≡ t.planned x
