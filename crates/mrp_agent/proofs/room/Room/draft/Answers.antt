use Rattle.std.proofs.Common.{◌≡◌, length, ap, sym, ◌∙◌}
use Rattle.mrp_netting.specs.PlanRows.{PlanRows}
use Rattle.mrp_agent.proofs.Rooms.{drafted_periods}
use Rattle.mrp_agent.proofs.room.Room.draft.Goals as goal

pub draft_into-requires-clause-gross : goal.draft_into-requires-clause-gross
draft_into-requires-clause-gross c =
    let seen : length c.self.inside.plan.gross ≡ length c.args.self.now.gross = ap (λ (z : PlanRows). length z.gross) c.self.view_is in
    c.self.invariant ∙ seen ∙ c.requires.periods

pub draft_into-requires-clause-into : goal.draft_into-requires-clause-into
draft_into-requires-clause-into c = ap (λ (z : PlanRows). length z.gross) c.self.view_is ∙ c.requires.periods

pub invariant_of-self : goal.invariant_of-self
invariant_of-self c =
    let seen : length c.self.inside.plan.gross ≡ length c.args.self.now.gross = ap (λ (z : PlanRows). length z.gross) c.self.view_is in
    let after = ap (λ (z : PlanRows). length z.gross) c.draft_into.ensures.plan ∙ (drafted_periods c.args.agent.now c.args.x).gross in
    c.draft_into.ensures.gross ∙ c.self.invariant ∙ seen ∙ c.requires.periods ∙ sym after
