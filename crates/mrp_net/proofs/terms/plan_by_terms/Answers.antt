use Rattle.std.proofs.Common.{◌≡◌, ℕ, ◌<◌, ◌≤◌, List, [], length, slice_index, arith, refl, sym, ap, ◌∙◌, subst, Option, IfSome}
use Rattle.std.proofs.lemmas.Bool.{eqb-true}
use Rattle.std.proofs.lemmas.List.{nil_from_length}
use Rattle.mrp_netting.specs.PlanningData.{PairData, planned, one}
use Rattle.mrp_netting.specs.PlanningBound.{IsWithinData}
use Rattle.mrp_netting.proofs.OneRows.{AreFirmRows, firm_rows-same, firm_rows-within}
use Rattle.mrp_master_data.specs.declared.rows.FirmRow.{FirmRow}
use Rattle.mrp_net.specs.declared.terms.PlanningTerms.{PlanningTerms}
use Rattle.mrp_net.specs.FirmOrders.{starting_in, due_in}
use Rattle.mrp_net.specs.Terms.{terms_given}
use Rattle.mrp_net.proofs.Firms.{are_firm_rows, firm_row-sum}
use Rattle.mrp_net.proofs.terms.plan_by_terms.Goals as goal
use Rattle.mrp_net.proofs.terms.plan_by_terms.Goals.{After-write}

-- a pair without orders has no rows for them
no_rows : (given : PlanningTerms) (incoming gross : List ℕ) → given.orders.now ≡ []
    → AreFirmRows (planned (terms_given (length gross) given) incoming gross) [] []
no_rows given incoming gross none =
    are_firm_rows given (length gross) incoming gross [] [] refl (omega arith) (omega arith)
    (λ t h. sym (ap (λ (fs : List FirmRow). starting_in fs t) none)) (λ t h. sym (ap (λ (fs : List FirmRow). due_in fs t) none))

pub plan_from-requires-clause-within : goal.plan_from-requires-clause-within
plan_from-requires-clause-within c =
    let given = c.args.terms.now in
    let none = nil_from_length given.orders.now (eqb-true (length given.orders.now) 0 (sym c.is_empty.ensures ∙ c.if-is_empty.true)) in
    let d : PairData = planned (terms_given (length c.args.gross.now) given) c.args.incoming.now c.args.gross.now in
    subst IsWithinData (sym (c.data_with.ensures c.args.gross.now))
    (firm_rows-within d [] [] c.requires.within (no_rows given c.args.incoming.now c.args.gross.now none))

pub returns-then-is_empty-clause-plan : goal.returns-then-is_empty-clause-plan
returns-then-is_empty-clause-plan c =
    let given = c.args.terms.now in
    let none = nil_from_length given.orders.now (eqb-true (length given.orders.now) 0 (sym c.is_empty.ensures ∙ c.if-is_empty.true)) in
    let d : PairData = planned (terms_given (length c.args.gross.now) given) c.args.incoming.now c.args.gross.now in
    c.plan_from.ensures.plan ∙ ap one (c.data_with.ensures c.args.gross.now)
    ∙ firm_rows-same d [] [] c.requires.within (no_rows given c.args.incoming.now c.args.gross.now none)

pub write-requires-clause-total : goal.write-requires-clause-total
write-requires-clause-total c =
    omega (arith, firm_row-sum (λ f. f.due) (length c.args.gross.now) c.args.terms.now.orders.now c.requires.dues, c.requires.within.total)

-- the rows that were written are those of the orders
written : (given : PlanningTerms) (incoming gross starts dues : List ℕ) (periods : ℕ) → periods ≡ length gross
    → length starts ≤ periods → length dues ≤ periods → ((t : ℕ) → t < periods → slice_index starts t ≡ starting_in given.orders.now t)
    → ((t : ℕ) → t < periods → slice_index dues t ≡ due_in given.orders.now t)
    → AreFirmRows (planned (terms_given (length gross) given) incoming gross) starts dues
written given incoming gross starts dues periods same few_starts few_dues start due =
    are_firm_rows given (length gross) incoming gross starts dues refl (omega (arith, same, few_starts)) (omega (arith, same, few_dues))
    (λ t h. start t (omega (arith, same, h))) (λ t h. due t (omega (arith, same, h)))

rows_written : (c : After-write) → AreFirmRows (planned (terms_given (length c.args.gross.now) c.args.terms.now) c.args.incoming.now c.args.gross.now)
    c.write.new.self.start c.write.new.self.due
rows_written c =
    let counted : c.unwrap.result ≡ c.len.result = subst (λ (h : Option ℕ). IfSome h (λ n. n ≡ c.len.result)) c.unwrap.ensures c.within.ensures.value in
    written c.args.terms.now c.args.incoming.now c.args.gross.now c.write.new.self.start c.write.new.self.due c.new-rows.result.periods
    (c.new-rows.ensures.periods ∙ counted ∙ c.len.ensures.value) c.write.ensures.few_starts c.write.ensures.few_dues c.write.ensures.start c.write.ensures.due

pub plan_from-requires-2-clause-within : goal.plan_from-requires-2-clause-within
plan_from-requires-2-clause-within c =
    let at = goal.at.plan_from-requires-2-clause-within c in
    let rows = c.write.new.self in
    let d : PairData = planned (terms_given (length c.args.gross.now) c.args.terms.now) c.args.incoming.now c.args.gross.now in
    subst IsWithinData (sym (c.planning_data.ensures c.args.gross.now))
    (firm_rows-within d rows.start rows.due c.requires.within (rows_written at.After-write))

pub returns-clause-plan : goal.returns-clause-plan
returns-clause-plan c =
    let at = goal.at.returns-clause-plan c in
    let rows = c.write.new.self in
    let d : PairData = planned (terms_given (length c.args.gross.now) c.args.terms.now) c.args.incoming.now c.args.gross.now in
    c.plan_from-2.ensures.plan ∙ ap one (c.planning_data.ensures c.args.gross.now)
    ∙ firm_rows-same d rows.start rows.due c.requires.within (rows_written at.After-write)
