use Rattle.std.proofs.Common.{◌≡◌, ℕ, Bool, List, subst, rules}
use Rattle.mrp_record.specs.declared.record.Record.{Record}
use Rattle.mrp_agent.specs.Fields.{indexes_of}
use Rattle.mrp_agent.specs.Reading.{unplanned_pairs}
use Rattle.mrp_agent.specs.Shows.{ShowsHistory}
use Rattle.mrp_agent.specs.State.{AgentState}
use Rattle.mrp_agent.specs.contracts.agent.Agent.{the_view}
use Rattle.mrp_agent.proofs.Reading.{left_said}
use Rattle.mrp_agent.proofs.agent.Agent.left.Goals as goal

pub returns-clause-count : goal.returns-clause-count
returns-clause-count c = search rules

pub returns-clause-unplanned : goal.returns-clause-unplanned
returns-clause-unplanned c =
    let A : AgentState = the_view c.self.inside in
    let P : AgentState → Type 0 = λ a. (sent taken : ℕ → List Record) (planned : ℕ → Bool) → ShowsHistory a sent taken planned
    → c.left.result ≡ unplanned_pairs a.view planned in
    subst P c.self.view_is (left_said A (indexes_of c.self.inside) c.self.invariant c.left.result c.left.ensures)
