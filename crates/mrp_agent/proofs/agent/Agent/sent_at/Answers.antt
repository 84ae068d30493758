use Rattle.std.proofs.Common.{◌≡◌, ◌<◌, List, length, set, ap, sym, ◌∙◌, subst, arith}
use Rattle.mrp_record.specs.Cursor.{OutFigures}
use Rattle.mrp_record.specs.Next.{stepped}
use Rattle.mrp_agent.specs.After.{after_sent}
use Rattle.mrp_agent.specs.Sending.{left_at, next_out, next_at}
use Rattle.mrp_agent.specs.Sent.{IsAppended}
use Rattle.mrp_agent.specs.State.{AgentState, out_at}
use Rattle.mrp_agent.specs.contracts.agent.Agent.{the_view}
use Rattle.mrp_agent.proofs.Calls.{appended, kept_outs, parts_handed, stepped_outs}
use Rattle.mrp_agent.proofs.agent.Agent.sent_at.Goals as goal
use Rattle.mrp_agent.proofs.agent.Agent.sent_at.Goals.{After-step}

-- the lane goes out of the plant
lane_there : (c : After-step) → c.args.k < length (the_view c.self.inside).view.outgoing
lane_there c = subst (λ (a : AgentState). c.args.k < length a.view.outgoing) (sym c.self.view_is) c.requires.outgoing

-- and its figures go on by what was left
stepped_there : (c : After-step) → (let A : AgentState = the_view c.self.inside in
    set A.outs c.args.k c.step.new.self ≡ set A.outs c.args.k (stepped (out_at A c.args.k) (left_at A c.args.k)))
stepped_there c =
    let A : AgentState = the_view c.self.inside in
    let given = ap (λ (a : AgentState). next_at a c.args.k) c.self.view_is ∙ c.requires.given in
    stepped_outs A c.args.k c.index_mut.result.now c.step.new.self c.args.next.left (omega (arith, lane_there c, c.self.invariant.rooms.cursors.count))
    c.index_mut.ensures.value (parts_handed (left_at A c.args.k) (next_out A c.args.k) c.args.next given).0 c.step.ensures

pub invariant_of-self : goal.invariant_of-self
invariant_of-self c =
    let at = (goal.at.invariant_of-self c).After-step in kept_outs (the_view c.self.inside) c.args.k _ (lane_there at) c.self.invariant (stepped_there at)

pub index_mut-requires : goal.index_mut-requires
index_mut-requires c =
    let within : c.args.k < length (the_view c.self.inside).view.outgoing =
    subst (λ (a : AgentState). c.args.k < length a.view.outgoing) (sym c.self.view_is) c.requires.outgoing in
    omega (arith, within, c.self.invariant.rooms.cursors.count, c.self.inside.lanes.outs.ok.0)

pub returns-clause-view : goal.returns-clause-view
returns-clause-view c = ap (λ (a : AgentState). a.view) c.self.view_is

pub returns-clause-exact : goal.returns-clause-exact
returns-clause-exact c =
    let A : AgentState = the_view c.self.inside in
    ap (λ (z : List OutFigures). record A { outs = z }) (stepped_there (goal.at.returns-clause-exact c).After-step)
    ∙ ap (λ (a : AgentState). after_sent a c.args.k) c.self.view_is

pub returns-clause-appended : goal.returns-clause-appended
returns-clause-appended c =
    let at = (goal.at.returns-clause-appended c).After-step in
    let A : AgentState = the_view c.self.inside in
    let B : AgentState = record A { outs = set A.outs c.args.k c.step.new.self } in
    let given = ap (λ (a : AgentState). next_at a c.args.k) c.self.view_is ∙ c.requires.given in
    subst (λ (a : AgentState). IsAppended a B c.args.k c.args.next.entry) c.self.view_is
    (appended A B c.self.invariant c.args.k (lane_there at) (ap (λ (z : List OutFigures). record A { outs = z }) (stepped_there at)) c.args.next.entry
    (parts_handed (left_at A c.args.k) (next_out A c.args.k) c.args.next given).1)
