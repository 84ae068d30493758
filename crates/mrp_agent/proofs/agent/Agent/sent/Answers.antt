use Rattle.std.proofs.Common.{None, Some, IfSome, IsSome, Option, sym, ◌∙◌, subst}
use Rattle.std.proofs.lemmas.Bool.{false≢true}
use Rattle.mrp_record.specs.declared.record.Record.{Record}
use Rattle.mrp_agent.specs.Sent.{IsAppended}
use Rattle.mrp_agent.specs.State.{outgoing_place}
use Rattle.mrp_agent.proofs.agent.Agent.sent.Goals as goal

when_some : (P : Type 0) (o : Option Record) → IsSome o → IfSome o (λ _. P) → P
when_some P None some h = absurd (false≢true some)
when_some P (Some r) some h = h

pub returns-clause-exact : goal.returns-clause-exact
returns-clause-exact c = when_some _ c.send-sent.result (subst IsSome (sym c.send-sent.ensures.exact) c.requires.given) c.send-sent.ensures.sent

pub returns-clause-appended : goal.returns-clause-appended
returns-clause-appended c = λ r given.
    subst (λ (o : Option Record). IfSome o (λ r. IsAppended c.args.self.now c.send-sent.new.self (outgoing_place c.args.self.now.view c.args.lane.0) r))
    (c.send-sent.ensures.exact ∙ given) c.send-sent.ensures.appended
