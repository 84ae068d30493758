-- The agent: which states of a network it shows as one of its plants, and when it works there.
use Rattle.std.specs.Prelude.{◌≡◌, ℕ}
use Rattle.mrp_master_data.specs.Table.{Table}
use Rattle.mrp_plant_view.specs.Seen.{IsView}
use Rattle.mrp_plant_view.specs.View.{plant_rows}
use Rattle.mrp_protocol.specs.Local.{AreLegal}
use Rattle.mrp_protocol.specs.State.{State}
use Rattle.mrp_agent.specs.State.{AgentState}
use Rattle.mrp_agent.specs.Shows.{ShowsHistory}

-- it sees what its plant sees, which says enough, and shows what was sent, what was taken and what is planned
pub record ShowsAgent (N : Table) (p : ℕ) (s : State) (agent : AgentState) : Type 0 where
  pub view : agent.view ≡ plant_rows N p
  pub enough : IsView agent.view
  pub history : ShowsHistory agent s.sent s.taken s.planned

-- and what has come to its plant are legal beginnings, as in each state that events lead to
pub record WorksIn (N : Table) (p : ℕ) (s : State) (agent : AgentState) : Type 0 where
  pub shown : ShowsAgent N p s agent
  pub legal : AreLegal N p s.taken
