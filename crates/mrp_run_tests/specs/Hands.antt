-- Tests of runs, agents that stand alone: what one of them sends is handed to the other plant's agent.
use Rattle.std.specs.Prelude.{◌≡◌, ℕ, ◌≤◌, List, [], ◌∷◌}
use Rattle.mrp_master_data.specs.Table.{Table}
use Rattle.mrp_record.specs.declared.record.Record.{Record}
use Rattle.mrp_protocol.specs.State.{State}
use Rattle.mrp_agent.specs.State.{AgentState}
use Rattle.mrp_agent.specs.InNetwork.{ShowsAgent}
use Rattle.mrp_world.specs.Mailbox.{Held}
use Rattle.mrp_world.specs.World.{box_at}
use Rattle.mrp_world.specs.Moves.{AreAt}

-- the agents of a network and these mailboxes show a state of its runs
pub record AreInRun (N : Table) (agents : List AgentState) (boxes : List Held) : Type 0 where
  pub capacity : ℕ
  pub holds : 1 ≤ capacity
  pub state : State
  pub shown : AreAt ShowsAgent N capacity agents boxes state

-- one in which nothing is under way
pub record AreAlone (N : Table) (agents : List AgentState) : Type 0 where
  pub boxes : List Held
  pub run : AreInRun N agents boxes
  pub empty : (l : ℕ) → (box_at boxes l).records ≡ []

-- or in which one record is under way on one lane
pub record IsHanded (N : Table) (agents : List AgentState) (lane : ℕ) (entry : Record) : Type 0 where
  pub boxes : List Held
  pub run : AreInRun N agents boxes
  pub here : (box_at boxes lane).records ≡ entry ∷ []
  pub elsewhere : (l : ℕ) → (l ≡ lane → ⊥) → (box_at boxes l).records ≡ []
