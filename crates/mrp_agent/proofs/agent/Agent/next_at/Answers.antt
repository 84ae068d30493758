use Rattle.std.proofs.Common.{◌≡◌, ◌<◌, None, Some, length, option_map, sym, ap, ◌∙◌, subst, arith}
use Rattle.mrp_agent.specs.Sending.{handed, left_at, next_at, next_out}
use Rattle.mrp_agent.specs.Sent.{GivenIsLegal, NoneCanBeSent}
use Rattle.mrp_agent.specs.State.{AgentState}
use Rattle.mrp_agent.specs.contracts.agent.Agent.{the_view}
use Rattle.mrp_agent.proofs.Calls.{given_legal, handed_on, next_is, none_legal}
use Rattle.mrp_agent.proofs.agent.Agent.next_at.Goals as goal
use Rattle.mrp_agent.proofs.agent.Agent.next_at.Goals.{After-next_record}

-- the lane goes out of the plant
lane_there : (c : After-next_record) → c.args.k < length (the_view c.self.inside).view.outgoing
lane_there c = subst (λ (a : AgentState). c.args.k < length a.view.outgoing) (sym c.self.view_is) c.requires.outgoing

-- and what was read is its next record
left_there : (c : After-next_record) → c.left_at-left.result ≡ left_at (the_view c.self.inside) c.args.k
left_there c = c.left_at-left.ensures ∙ ap (λ (a : AgentState). left_at a c.args.k) (sym c.self.view_is)

next_there : (c : After-next_record) → c.next_record.result ≡ next_out (the_view c.self.inside) c.args.k
next_there c =
    next_is (the_view c.self.inside) c.args.k c.index.result.now c.left_at-left.result c.next_record.result
    (omega (arith, lane_there c, c.self.invariant.rooms.cursors.count)) c.index.ensures (left_there c) c.next_record.ensures

pub index-requires : goal.index-requires
index-requires c =
    let within : c.args.k < length (the_view c.self.inside).view.outgoing =
    subst (λ (a : AgentState). c.args.k < length a.view.outgoing) (sym c.self.view_is) c.requires.outgoing in
    omega (arith, within, c.self.invariant.rooms.cursors.count, c.self.inside.lanes.outs.ok.0)

pub returns-clause-exact : goal.returns-clause-exact
returns-clause-exact c =
    let at = (goal.at.returns-clause-exact c).After-next_record in
    handed_on (the_view c.self.inside) c.args.k c.left_at-left.result c.next_record.result c.in_ok-entry.entry (left_there at) (next_there at) c.in_ok-entry.was
    ∙ ap (λ (a : AgentState). next_at a c.args.k) c.self.view_is

pub returns-clause-given : goal.returns-clause-given
returns-clause-given c =
    let at = (goal.at.returns-clause-given c).After-next_record in
    subst (λ (a : AgentState). GivenIsLegal a c.args.k c.in_ok-entry.entry) c.self.view_is
    (given_legal (the_view c.self.inside) c.self.invariant c.args.k (lane_there at) (Some c.in_ok-entry.entry) (sym c.in_ok-entry.was ∙ next_there at))

pub returns-in_err-entry-clause-exact : goal.returns-in_err-entry-clause-exact
returns-in_err-entry-clause-exact c =
    let at = (goal.at.returns-in_err-entry-clause-exact c).After-next_record in
    c.from_residual.ensures ∙ ap (option_map (handed (left_at (the_view c.self.inside) c.args.k))) (sym c.in_err-entry.was ∙ next_there at)
    ∙ ap (λ (a : AgentState). next_at a c.args.k) c.self.view_is

pub returns-in_err-entry-clause-none : goal.returns-in_err-entry-clause-none
returns-in_err-entry-clause-none c =
    let at = (goal.at.returns-in_err-entry-clause-none c).After-next_record in
    rw c.from_residual.ensures (subst (λ (a : AgentState). NoneCanBeSent a c.args.k) c.self.view_is
    (none_legal (the_view c.self.inside) c.self.invariant c.args.k (lane_there at) None (sym c.in_err-entry.was ∙ next_there at)))
