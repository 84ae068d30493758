use Rattle.std.proofs.Common.{◌≢◌, ◌↔◌, ℕ, Bool, List, sym, subst}
use Rattle.std.specs.List.{All, AllPairs, Contains}
use Rattle.mrp_master_data.specs.declared.numbers.PairNo.{PairNo}
use Rattle.mrp_plant_view.specs.declared.view.PlantPair.{PlantPair}
use Rattle.mrp_plant_view.specs.Seen.{IsOwnPair}
use Rattle.mrp_record.specs.declared.record.Record.{Record}
use Rattle.mrp_protocol.specs.LocalPlans.{CanBePlanned}
use Rattle.mrp_agent.specs.Shows.{ShowsHistory}
use Rattle.mrp_agent.specs.State.{AgentState}
use Rattle.mrp_agent.specs.contracts.agent.Agent.{the_view}
use Rattle.mrp_agent.proofs.Waiting.{ready_own, ready_are_once, ready_can_be_planned}
use Rattle.mrp_agent.proofs.agent.Agent.ready_pairs.Goals as goal

pub returns-clause-own : goal.returns-clause-own
returns-clause-own c =
    let A : AgentState = the_view c.self.inside in
    let own : All (IsOwnPair A.view) c.ready_pairs.result.now = subst (λ (z : List PairNo). All (IsOwnPair A.view) z) (sym c.ready_pairs.ensures.pairs)
    (ready_own A c.self.invariant.view c.self.invariant.rooms c.ready_pairs.ensures.listed) in
    subst (λ (a : AgentState). All (IsOwnPair a.view) c.ready_pairs.result.now) c.self.view_is own

pub returns-clause-once : goal.returns-clause-once
returns-clause-once c =
    let A : AgentState = the_view c.self.inside in
    subst (λ (z : List PairNo). AllPairs (λ x y. x ≢ y) z) (sym c.ready_pairs.ensures.pairs)
    (ready_are_once A c.self.invariant.view c.self.invariant.rooms c.ready_pairs.ensures.listed c.ready_pairs.ensures.once)

pub returns-clause-exact : goal.returns-clause-exact
returns-clause-exact c =
    let A : AgentState = the_view c.self.inside in
    let P : AgentState → List PairNo → Type 0 = λ a z.
    (sent taken : ℕ → List Record) (planned : ℕ → Bool) → ShowsHistory a sent taken planned
    → (p : PlantPair) → Contains a.view.pairs p → Contains z p.number ↔ CanBePlanned a.view taken planned p in
    subst (λ (a : AgentState). P a c.ready_pairs.result.now) c.self.view_is
    (subst (λ (z : List PairNo). P A z) (sym c.ready_pairs.ensures.pairs)
    (ready_can_be_planned A c.self.invariant.view c.self.invariant.rooms c.ready_pairs.ensures.listed))
