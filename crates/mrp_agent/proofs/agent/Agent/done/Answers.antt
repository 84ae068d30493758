use Rattle.std.proofs.Common.{◌≡◌, ◌↔◌, ℕ, Bool, List, subst}
use Rattle.std.specs.Prelude.{IsTrue}
use Rattle.mrp_record.specs.declared.record.Record.{Record}
use Rattle.mrp_agent.specs.Fields.{indexes_of}
use Rattle.mrp_agent.specs.Reading.{HasDone}
use Rattle.mrp_agent.specs.Shows.{ShowsHistory, is_done}
use Rattle.mrp_agent.specs.State.{AgentState}
use Rattle.mrp_agent.specs.contracts.agent.Agent.{the_view}
use Rattle.mrp_agent.proofs.Reading.{done_said}
use Rattle.mrp_agent.proofs.agent.Agent.done.Goals as goal

pub returns-clause-finished : goal.returns-clause-finished
returns-clause-finished c =
    let A : AgentState = the_view c.self.inside in
    let P : AgentState → Type 0 = λ a. c.is_done.result ≡ is_done a → (sent taken : ℕ → List Record) (planned : ℕ → Bool) → ShowsHistory a sent taken planned
    → IsTrue c.is_done.result ↔ HasDone a.view sent taken planned in
    subst P c.self.view_is (done_said A (indexes_of c.self.inside) c.self.invariant c.is_done.result) c.is_done.ensures
