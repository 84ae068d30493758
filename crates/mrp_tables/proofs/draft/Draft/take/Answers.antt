use Rattle.std.proofs.Common.{◌≡◌, Ok, subst, sym, ◌∙◌}
use Rattle.mrp_validation.specs.Grammar.{may_follow}
use Rattle.mrp_validation.specs.declared.kind.Kind.{Kind}
use Rattle.mrp_tables.specs.Bulk.{bulk_after}
use Rattle.mrp_tables.specs.Drafts.{draft_state}
use Rattle.mrp_tables.proofs.BulkFacts.{taken-bad_order, taken-fault, taken-made}
use Rattle.mrp_validation.proofs.KeepingSteps.{handed_on}
use Rattle.mrp_tables.proofs.draft.Draft.take.Goals as goal
use Rattle.mrp_tables.proofs.TurnCount.{draft_rows-le}
use Rattle.std.proofs.Common.{arith}

pub returns-then-not-may_follow-clause-exact : goal.returns-then-not-may_follow-clause-exact
returns-then-not-may_follow-clause-exact c =
    let self = c.args.self.now in
    taken-bad_order (draft_state self) c.args.row
    (subst (λ (k : Kind). may_follow k self.last ≡ _) c.kind-kind.ensures (sym c.may_follow.ensures ∙ c.if-not-may_follow.true))

pub returns-in_err-take_row-clause-exact : goal.returns-in_err-take_row-clause-exact
returns-in_err-take_row-clause-exact c =
    let self = c.args.self.now in
    rw (handed_on c.from_residual.result _ c.from_residual.ensures.1)
    (taken-fault (draft_state self) c.args.row c.in_err-take_row.field-0.0
    (subst (λ (k : Kind). may_follow k self.last ≡ _) c.kind-kind.ensures (sym c.may_follow.ensures ∙ c.if-not-may_follow.false))
    c.in_err-take_row.ensures.exact)

pub returns-clause-exact : goal.returns-clause-exact
returns-clause-exact c =
    let self = c.args.self.now in
    subst (λ (k : Kind). bulk_after (draft_state self) c.args.row ≡ Ok (c.take_row.new.self.lists, k)) (sym c.kind-kind.ensures)
    (taken-made (draft_state self) c.args.row _
    (subst (λ (k : Kind). may_follow k self.last ≡ _) c.kind-kind.ensures (sym c.may_follow.ensures ∙ c.if-not-may_follow.false))
    c.in_ok-take_row.ensures.exact)

pub overflow_add-self : goal.overflow_add-self
overflow_add-self c = omega (arith, draft_rows-le c.args.self.now c.requires.draft, c.in_ok-take_row.ensures.adds.counted)
