use Rattle.std.proofs.Common.{◌≡◌, List, subst, rules}
use Rattle.std.specs.List.{All, slice_get}
use Rattle.mrp_master_data.specs.declared.numbers.PairNo.{PairNo}
use Rattle.mrp_plant_view.specs.Seen.{IsOwnPair}
use Rattle.mrp_agent.specs.Drafts.{ready_numbers}
use Rattle.mrp_agent.specs.State.{AgentState}
use Rattle.mrp_agent.proofs.Plannable.{HasReady, first_can_be_planned, none_can_be_planned}
use Rattle.mrp_agent.proofs.agent.Agent.ready.Goals as goal

pub returns-clause-first : goal.returns-clause-first
returns-clause-first c = search rules

pub returns-clause-given : goal.returns-clause-given
returns-clause-given c =
    let A : AgentState = c.args.self.now in
    let first : c.copied.result ≡ slice_get (ready_numbers A) 0 = search rules in
    first_can_be_planned A (ready_numbers A) c.copied.result first
    (subst (λ (z : List PairNo). All (IsOwnPair A.view) z) c.ready_pairs.ensures.numbers c.ready_pairs.ensures.own)
    (subst (HasReady A) c.ready_pairs.ensures.numbers c.ready_pairs.ensures.exact)

pub returns-clause-none : goal.returns-clause-none
returns-clause-none c =
    let A : AgentState = c.args.self.now in
    let first : c.copied.result ≡ slice_get (ready_numbers A) 0 = search rules in
    none_can_be_planned A (ready_numbers A) c.copied.result first (subst (HasReady A) c.ready_pairs.ensures.numbers c.ready_pairs.ensures.exact)
