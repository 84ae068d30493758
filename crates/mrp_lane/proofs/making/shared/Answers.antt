use Rattle.std.proofs.Common.{sym, ap, arith, ◌∙◌}
use Rattle.mrp_lane.proofs.Rule.{begins}
use Rattle.mrp_lane.proofs.making.shared.Goals as goal

pub ruled-requires-clause-cap : goal.ruled-requires-clause-cap
ruled-requires-clause-cap c = omega (arith, c.requires)

pub ruled-requires-clause-rule : goal.ruled-requires-clause-rule
ruled-requires-clause-rule c = begins

pub returns-clause-room : goal.returns-clause-room
returns-clause-room c = ap (λ b. b.cap) c.in_ok-mailbox-2.ensures.ok ∙ c.in_ok-mailbox.ensures.0

pub returns-clause-one : goal.returns-clause-one
returns-clause-one c = c.in_ok-takers_mailbox.ensures

pub returns-clause-pass : goal.returns-clause-pass
returns-clause-pass c = (c.in_ok-mailbox.ensures.1.0 ∙ ap (λ b. b.table.shared.table_id) (sym c.in_ok-mailbox-2.ensures.ok), c.in_ok-mailbox.ensures.1.1)

pub returns-clause-first : goal.returns-clause-first
returns-clause-first c = c.in_ok-mailbox.ensures.3
