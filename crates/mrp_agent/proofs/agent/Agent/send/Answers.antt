use Rattle.std.proofs.Common.{ℕ, ◌<◌, length, option_map, sym, ap, ◌∙◌, subst}
use Rattle.mrp_agent.specs.declared.sending.NextOut.{NextOut}
use Rattle.mrp_agent.specs.After.{after_sent}
use Rattle.mrp_agent.specs.Sending.{next_out}
use Rattle.mrp_agent.specs.Sent.{GivenIsLegal, IsAppended, NoneCanBeSent}
use Rattle.mrp_agent.proofs.Calls.{next_entry}
use Rattle.mrp_agent.proofs.agent.Agent.send.Goals as goal

pub next_at-requires : goal.next_at-requires
next_at-requires c =
    record {
      outgoing = rw c.seek-k.ensures.unchanged
          (subst (λ (n : ℕ). n < length c.args.self.now.view.outgoing) (sym c.seek-k.ensures.place) c.requires.outgoing);
    }

pub sent_at-requires-clause-outgoing : goal.sent_at-requires-clause-outgoing
sent_at-requires-clause-outgoing c =
    rw c.seek-k.ensures.unchanged (subst (λ (n : ℕ). n < length c.args.self.now.view.outgoing) (sym c.seek-k.ensures.place) c.requires.outgoing)

pub sent_at-requires-clause-given : goal.sent_at-requires-clause-given
sent_at-requires-clause-given c = sym c.next_at.ensures.exact ∙ c.in_ok-next.was

pub returns-clause-exact : goal.returns-clause-exact
returns-clause-exact c =
    ap (option_map (λ (n : NextOut). n.entry)) (sym c.in_ok-next.was)
    ∙ next_entry c.args.self.now c.seek-k.result c.next_at.result (rw c.seek-k.ensures.unchanged at c.next_at.ensures.exact)
    ∙ ap (next_out c.args.self.now) c.seek-k.ensures.place

pub returns-clause-given : goal.returns-clause-given
returns-clause-given c =
    subst (λ (n : ℕ). GivenIsLegal c.args.self.now n c.in_ok-next.next.entry) c.seek-k.ensures.place
    (rw c.seek-k.ensures.unchanged at c.in_ok-next.ensures.given)

pub returns-clause-sent : goal.returns-clause-sent
returns-clause-sent c = (rw c.seek-k.ensures.unchanged at c.sent_at.ensures.exact) ∙ ap (after_sent c.args.self.now) c.seek-k.ensures.place

pub returns-clause-appended : goal.returns-clause-appended
returns-clause-appended c =
    subst (λ (n : ℕ). IsAppended c.args.self.now c.sent_at.new.self n c.in_ok-next.next.entry) c.seek-k.ensures.place
    (rw c.seek-k.ensures.unchanged at c.sent_at.ensures.appended)

pub returns-in_err-next-clause-exact : goal.returns-in_err-next-clause-exact
returns-in_err-next-clause-exact c =
    c.from_residual.ensures ∙ ap (option_map (λ (n : NextOut). n.entry)) (sym c.in_err-next.was)
    ∙ next_entry c.args.self.now c.seek-k.result c.next_at.result (rw c.seek-k.ensures.unchanged at c.next_at.ensures.exact)
    ∙ ap (next_out c.args.self.now) c.seek-k.ensures.place

pub returns-in_err-next-clause-none : goal.returns-in_err-next-clause-none
returns-in_err-next-clause-none c =
    rw c.from_residual.ensures
    (subst (NoneCanBeSent c.args.self.now) c.seek-k.ensures.place (rw c.seek-k.ensures.unchanged at c.in_err-next.ensures.none))
