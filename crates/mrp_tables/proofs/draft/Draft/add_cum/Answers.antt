use Rattle.std.proofs.Common.{◌∙◌, ap, sym, not, true≢false, refl, arith}
use borrow.Author.Rules.{rules}
use Rattle.std.proofs.lemmas.Grind.{common_steps}
use Rattle.mrp_tables.proofs.Starting.{told}
use Rattle.mrp_validation.proofs.KeepingSteps.{handed_on}
use Rattle.mrp_tables.proofs.Keys.{any_cum}
use Rattle.mrp_tables.proofs.draft.Draft.add_cum.Goals as goal

pub unreachable-requires : goal.unreachable-requires
unreachable-requires c =
    let k = c.in_ok-cum.cum in
    let fresh = any_cum k.from k.pair _ _ c.requires.draft.holds.cum_keys ∙ c.in_ok-cum.ensures.fresh in
    absurd (true≢false (ap not (sym fresh) ∙ sym c.in_ok-insert.ensures.added ∙ c.if-not-branch.true))

pub returns-in_err-cum-clause-adds : goal.returns-in_err-cum-clause-adds
returns-in_err-cum-clause-adds c = rw (handed_on c.from_residual.result _ c.from_residual.ensures.1) tt

pub returns-in_err-cum-clause-exact : goal.returns-in_err-cum-clause-exact
returns-in_err-cum-clause-exact c = rw (handed_on c.from_residual.result _ c.from_residual.ensures.1) (told _ _ (rw (sym c.in_err-cum.ensures.exact) refl))

pub returns-in_err-insert-clause-adds : goal.returns-in_err-insert-clause-adds
returns-in_err-insert-clause-adds c = rw (handed_on c.from_residual-in_err-insert.result _ c.from_residual-in_err-insert.ensures.1) tt

pub returns-in_err-insert-clause-exact : goal.returns-in_err-insert-clause-exact
returns-in_err-insert-clause-exact c = search rules

pub returns-in_err-add_cum-clause-adds : goal.returns-in_err-add_cum-clause-adds
returns-in_err-add_cum-clause-adds c = rw (handed_on c.from_residual-in_err-add_cum.result _ c.from_residual-in_err-add_cum.ensures.1) tt

pub returns-in_err-add_cum-clause-exact : goal.returns-in_err-add_cum-clause-exact
returns-in_err-add_cum-clause-exact c = search rules

pub returns-clause-exact : goal.returns-clause-exact
returns-clause-exact c = rw (sym c.in_ok-cum.ensures.exact, c.in_ok-add_cum.ensures.table) refl

pub add_cum-requires-clause-row : goal.add_cum-requires-clause-row
add_cum-requires-clause-row c = c.in_ok-cum.ensures.row

pub add_cum-requires-clause-room : goal.add_cum-requires-clause-room
add_cum-requires-clause-room c = c.in_ok-cum.ensures.room

pub returns-clause-adds : goal.returns-clause-adds
returns-clause-adds c = grind (arith, common_steps)
