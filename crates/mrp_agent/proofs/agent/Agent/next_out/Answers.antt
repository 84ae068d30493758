use Rattle.std.proofs.Common.{ℕ, ◌<◌, length, option_map, sym, ap, ◌∙◌, subst}
use Rattle.mrp_agent.specs.declared.sending.NextOut.{NextOut}
use Rattle.mrp_agent.specs.Sending.{next_out}
use Rattle.mrp_agent.specs.Sent.{GivenIsLegal, NoneCanBeSent}
use Rattle.mrp_agent.proofs.Calls.{next_entry}
use Rattle.mrp_agent.proofs.agent.Agent.next_out.Goals as goal

pub next_at-requires : goal.next_at-requires
next_at-requires c =
    record { outgoing = subst (λ (n : ℕ). n < length c.args.self.now.view.outgoing) (sym c.out_place-k.ensures) c.requires.outgoing }

pub returns-clause-exact : goal.returns-clause-exact
returns-clause-exact c =
    ap (option_map (λ (n : NextOut). n.entry)) (sym c.in_ok-next.was) ∙ next_entry c.args.self.now c.out_place-k.result c.next_at.result c.next_at.ensures.exact
    ∙ ap (next_out c.args.self.now) c.out_place-k.ensures

pub returns-clause-given : goal.returns-clause-given
returns-clause-given c =
    subst (λ (n : ℕ). GivenIsLegal c.args.self.now n c.in_ok-next.next.entry) c.out_place-k.ensures c.in_ok-next.ensures.given

pub returns-in_err-next-clause-exact : goal.returns-in_err-next-clause-exact
returns-in_err-next-clause-exact c =
    c.from_residual.ensures ∙ ap (option_map (λ (n : NextOut). n.entry)) (sym c.in_err-next.was)
    ∙ next_entry c.args.self.now c.out_place-k.result c.next_at.result c.next_at.ensures.exact ∙ ap (next_out c.args.self.now) c.out_place-k.ensures

pub returns-in_err-next-clause-none : goal.returns-in_err-next-clause-none
returns-in_err-next-clause-none c =
    rw c.from_residual.ensures (subst (NoneCanBeSent c.args.self.now) c.out_place-k.ensures c.in_err-next.ensures.none)
