use Rattle.std.proofs.Common.{◌∷◌, ◌+◌, drop, List, subst, arith}
use Rattle.std.proofs.lemmas.List.{drop_all}
use Rattle.mrp_tables.specs.declared.bulk.BulkRow.{BulkRow}
use Rattle.mrp_tables.specs.Pieces.{rows_in}
use Rattle.mrp_tables.proofs.BulkFacts.{keeps_on, taken-kept}
use Rattle.mrp_tables.specs.Drafts.{draft_state}
use Rattle.mrp_tables.proofs.PieceFacts.{next_of, taken_all, taken_bulk, taken_kept, taken_one, taken_refused, TakenSo, was_taken, went_on}
use Rattle.mrp_tables.proofs.TurnCount.{draft_rows-le}
use Rattle.mrp_validation.proofs.KeepingSteps.{handed_on}
use Rattle.mrp_tables.proofs.pieces.Piece.take_into.Goals as goal
use Rattle.mrp_tables.proofs.pieces.Piece.take_into.Goals.{After-row-item}
use Rattle.std.proofs.Common.{ap}
use Rattle.mrp_master_data.specs.Table.{Table}

-- the row at hand is the next that was said
so : (c : After-row-item)
    → TakenSo (rows_in c.args.self.now.text.items) c.args.draft.now c.rows.draft (c.row-item.result ∷ drop (c.rows.row-index + 1) c.args.self.now.said.items)
so c = subst (λ (said : List BulkRow). TakenSo (rows_in c.args.self.now.text.items) c.args.draft.now c.rows.draft said)
    (next_of c.deref-row-items.result.now c.args.self.now.said.items c.rows.row-index c.row-item.result c.deref-row-items.ensures.value c.rows-test.true
    c.row-item.is) c.rows.invariant.taken

pub overflow_add-number : goal.overflow_add-number
overflow_add-number c = omega (arith, draft_rows-le c.rows.draft c.rows.invariant.draft)

pub take-requires-clause-row : goal.take-requires-clause-row
take-requires-clause-row c = taken_bulk _ _ _ _ _ (so (goal.at.take-requires-clause-row c).After-row-item)

pub returns-in_err-at_row-clause-exact : goal.returns-in_err-at_row-clause-exact
returns-in_err-at_row-clause-exact c =
    rw (handed_on c.from_residual.result _ c.from_residual.ensures.1)
    (taken_refused _ _ _ _ _ (so (goal.at.returns-in_err-at_row-clause-exact c).After-row-item) c.take.new.self c.take.new.self c.take.result c.at_row.result _
    c.at_row.ensures.same c.in_err-at_row.was c.take.ensures.exact)

pub rows-preserved : goal.rows-preserved
rows-preserved c =
    let here = so (goal.at.rows-preserved c).After-row-item in
    let made = was_taken _ c.take.new.self _ c.take.result c.at_row.result _ c.at_row.ensures.same c.in_ok-at_row.was c.take.ensures.exact in
    record {
      draft = went_on _ c.take.result c.at_row.result _ _ c.at_row.ensures.same c.in_ok-at_row.was c.take.ensures.draft;
      kept = taken_kept _ _ _ _ _ here c.take.new.self c.rows.invariant.kept made;
      names = keeps_on c.args.draft.now.lists c.rows.draft.lists c.take.new.self.lists c.rows.invariant.names
          (taken-kept (draft_state c.rows.draft) (draft_state c.take.new.self) c.row-item.result made);
      taken = taken_one _ _ _ _ _ here c.take.new.self made
          (went_on _ c.take.result c.at_row.result _ _ c.at_row.ensures.same c.in_ok-at_row.was c.take.ensures.rows);
    }

pub returns-clause-exact : goal.returns-clause-exact
returns-clause-exact c =
    taken_all _ _ _ (tt {0}) (subst (λ (said : List BulkRow). TakenSo (rows_in c.args.self.now.text.items) c.args.draft.now c.rows.draft said)
    (drop_all c.rows.row-index c.args.self.now.said.items
    (omega (arith, c.rows-test.false, c.deref-row-items.ensures.len))) c.rows.invariant.taken)

pub returns-in_err-at_row-clause-limits : goal.returns-in_err-at_row-clause-limits
returns-in_err-at_row-clause-limits c = rw (handed_on c.from_residual.result _ c.from_residual.ensures.1) tt

pub returns-clause-limits : goal.returns-clause-limits
returns-clause-limits c = ap (λ (N : Table). N.limits) c.rows.invariant.names
