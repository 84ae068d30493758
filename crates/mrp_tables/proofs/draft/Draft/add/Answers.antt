use Rattle.std.proofs.Common.{sym, ◌∙◌}
use Rattle.csv.specs.Records.{fields_of}
use Rattle.mrp_tables.proofs.Starting.{after-bad_kind, after-bad_order, after-fault, after-made, follows_open, told}
use Rattle.mrp_validation.proofs.KeepingSteps.{handed_on}
use Rattle.mrp_tables.proofs.draft.Draft.add.Goals as goal
use Rattle.mrp_tables.proofs.TurnCount.{draft_rows-le}
use Rattle.std.proofs.Common.{arith}

pub returns-in_err-kind-clause-exact : goal.returns-in_err-kind-clause-exact
returns-in_err-kind-clause-exact c =
    let self = c.args.self.now in
    let bad = after-bad_kind self.lists self.last (fields_of c.args.row.now) c.requires.text c.in_err-kind.field-0.0 (sym c.row_kind.ensures
    ∙ c.in_err-kind.was) in
    rw (handed_on c.from_residual.result _ c.from_residual.ensures.1) (told _ _ bad)

pub returns-then-not-may_follow-clause-exact : goal.returns-then-not-may_follow-clause-exact
returns-then-not-may_follow-clause-exact c =
    let self = c.args.self.now in
    after-bad_order self.lists self.last (fields_of c.args.row.now) c.requires.text c.in_ok-kind.kind (sym c.row_kind.ensures ∙ c.in_ok-kind.was)
    (sym c.may_follow.ensures ∙ c.if-not-may_follow.true)

pub returns-in_err-add_row-clause-exact : goal.returns-in_err-add_row-clause-exact
returns-in_err-add_row-clause-exact c =
    let self = c.args.self.now in
    let tells = after-fault self.lists self.last (fields_of c.args.row.now) c.requires.text c.in_ok-kind.kind c.in_err-add_row.field-0.0 (sym c.row_kind.ensures
    ∙ c.in_ok-kind.was)
    (sym c.may_follow.ensures ∙ c.if-not-may_follow.false) c.in_err-add_row.ensures.exact in
    rw (handed_on c.from_residual-in_err-add_row.result _ c.from_residual-in_err-add_row.ensures.1) tells

pub returns-clause-exact : goal.returns-clause-exact
returns-clause-exact c =
    let self = c.args.self.now in
    after-made self.lists self.last (fields_of c.args.row.now) c.requires.text c.in_ok-kind.kind _ (sym c.row_kind.ensures ∙ c.in_ok-kind.was)
    (sym c.may_follow.ensures ∙ c.if-not-may_follow.false) c.in_ok-add_row.ensures.exact

pub add_row-requires-clause-endless : goal.add_row-requires-clause-endless
add_row-requires-clause-endless c =
    c.requires.kept.ended (follows_open c.in_ok-kind.kind c.args.self.now.last (sym c.may_follow.ensures ∙ c.if-not-may_follow.false))

pub overflow_add-self : goal.overflow_add-self
overflow_add-self c = omega (arith, draft_rows-le c.args.self.now c.requires.draft, c.in_ok-add_row.ensures.adds.counted)
