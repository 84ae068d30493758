use Rattle.std.proofs.Common.{◌≡◌, length, ap, sym, ◌∙◌}
use Rattle.mrp_netting.specs.PlanRows.{PlanRows}
use Rattle.mrp_net.specs.Terms.{terms_given}
use Rattle.mrp_agent.specs.Asking.{asked_by, uses_by}
use Rattle.mrp_agent.proofs.Asked.{drafted_length}
use Rattle.mrp_agent.proofs.room.Room.draft_rows.Goals as goal

pub invariant_of-self : goal.invariant_of-self
invariant_of-self c =
    let rows = c.args.rows.now in
    let after = drafted_length (terms_given (length rows.demand.now) c.args.terms.now) rows.incoming.now rows.demand.now
    (asked_by (uses_by rows) c.args.plans.now rows.edges.now) c.draft_from.new.into c.draft_from.ensures.plan in
    let seen : length c.self.inside.plan.gross ≡ length c.args.self.now.gross = ap (λ (z : PlanRows). length z.gross) c.self.view_is in
    c.draft_from.ensures.gross ∙ c.self.invariant ∙ seen ∙ c.requires.periods ∙ sym after
