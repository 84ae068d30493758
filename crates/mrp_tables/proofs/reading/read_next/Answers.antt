use Rattle.std.proofs.Common.{◌≡◌, ℕ, Result, Ok, Err, MatchResult, OnOk, refl, true≢false}
use Rattle.std.proofs.lemmas.Bool.{false≢true}
use Rattle.mrp_validation.specs.declared.fault.TableFault.{TableFault}
use Rattle.mrp_validation.specs.declared.fault.TableFaultKind.{TableFaultKind}
use Rattle.csv.specs.Records.{fields_of}
use Rattle.mrp_validation.specs.Left.{rows_left}
use Rattle.mrp_tables.specs.Drafts.{draft_state}
use Rattle.mrp_validation.proofs.Keeping.{row_after_keeps}
use Rattle.mrp_validation.proofs.Loop.{bad_there, ends_there, goes_row, none_there, some_there}
use Rattle.mrp_tables.proofs.Adding.{added, refused, refused_at, refused_own}
use Rattle.mrp_validation.proofs.KeepingSteps.{handed_on}
use Rattle.mrp_tables.proofs.reading.read_next.Goals as goal
use Rattle.mrp_validation.proofs.LimitsStay.{row_limits}

-- what holds where the row was added holds here
went : (added : Result (Unit {0}) TableFaultKind) (told : Result (Unit {0}) TableFault) (u : Unit {0}) (number : ℕ) (P : Type 0)
    → MatchResult added (λ v. told ≡ Ok v) (λ k. told ≡ Err (record { row = number; kind = k })) → told ≡ Ok u → OnOk added P → P
went (Ok v) told u number P same is holds = holds
went (Err k) told u number P same is holds = absurd (cc)

pub returns-in_err-next_row-clause-exact : goal.returns-in_err-next_row-clause-exact
returns-in_err-next_row-clause-exact g c =
    rw (handed_on c.from_residual.result _ c.from_residual.ensures.1)
    (bad_there (rows_left g.R.Read.remaining c.args.rows.now) c.args.number (draft_state c.args.draft.now) _ c.in_err-next_row.ensures.exact)

pub returns-then-not-branch-clause-exact : goal.returns-then-not-branch-clause-exact
returns-then-not-branch-clause-exact g c =
    ends_there (rows_left g.R.Read.remaining c.args.rows.now) c.args.number (draft_state c.args.draft.now)
    (none_there c.in_ok-next_row.field-0 (rows_left g.R.Read.remaining c.args.rows.now) (rows_left g.R.Read.remaining c.next_row.new.rows) c.args.number
    (fields_of c.next_row.new.row) c.if-not-branch.true c.in_ok-next_row.ensures.exact)

pub returns-in_err-at_row-clause-exact : goal.returns-in_err-at_row-clause-exact
returns-in_err-at_row-clause-exact g c =
    let takes = some_there c.in_ok-next_row.field-0 (rows_left g.R.Read.remaining c.args.rows.now)
    (rows_left g.R.Read.remaining c.next_row.new.rows) c.args.number (fields_of c.next_row.new.row) c.if-not-branch.false c.in_ok-next_row.ensures.exact in
    rw (handed_on c.from_residual-in_err-at_row.result _ c.from_residual-in_err-at_row.ensures.1)
    (refused (rows_left g.R.Read.remaining c.args.rows.now) (rows_left g.R.Read.remaining c.next_row.new.rows) c.args.draft.now c.add.new.self c.args.number
    (fields_of c.next_row.new.row)
    c.add.result c.at_row.result _ c.at_row.ensures.same c.in_err-at_row.was c.add.ensures.exact takes)

pub returns-clause-exact : goal.returns-clause-exact
returns-clause-exact g c =
    let takes = some_there c.in_ok-next_row.field-0 (rows_left g.R.Read.remaining c.args.rows.now)
    (rows_left g.R.Read.remaining c.next_row.new.rows) c.args.number (fields_of c.next_row.new.row) c.if-not-branch.false c.in_ok-next_row.ensures.exact in
    let good = added c.args.draft.now c.add.new.self c.args.number
    (fields_of c.next_row.new.row) c.add.result c.at_row.result _ c.at_row.ensures.same c.in_ok-at_row.was c.add.ensures.exact in
    goes_row (rows_left g.R.Read.remaining c.args.rows.now) (rows_left g.R.Read.remaining c.next_row.new.rows) c.args.number (draft_state c.args.draft.now)
    (draft_state c.add.new.self) (fields_of c.next_row.new.row) takes good

pub returns-clause-kept : goal.returns-clause-kept
returns-clause-kept g c =
    let good = added c.args.draft.now c.add.new.self c.args.number
    (fields_of c.next_row.new.row) c.add.result c.at_row.result _ c.at_row.ensures.same c.in_ok-at_row.was c.add.ensures.exact in
    row_after_keeps (draft_state c.args.draft.now) (draft_state c.add.new.self) (fields_of c.next_row.new.row) c.requires.kept good

pub returns-clause-limits : goal.returns-clause-limits
returns-clause-limits g c =
    let good = added c.args.draft.now c.add.new.self c.args.number
    (fields_of c.next_row.new.row) c.add.result c.at_row.result _ c.at_row.ensures.same c.in_ok-at_row.was c.add.ensures.exact in
    row_limits (draft_state c.args.draft.now) (draft_state c.add.new.self) (fields_of c.next_row.new.row) good

pub returns-in_err-next_row-clause-limits : goal.returns-in_err-next_row-clause-limits
returns-in_err-next_row-clause-limits g c = rw (handed_on c.from_residual.result _ c.from_residual.ensures.1) tt

pub returns-in_err-at_row-clause-limits : goal.returns-in_err-at_row-clause-limits
returns-in_err-at_row-clause-limits g c = rw (handed_on c.from_residual-in_err-at_row.result _ c.from_residual-in_err-at_row.ensures.1) tt

pub returns-in_err-next_row-clause-number : goal.returns-in_err-next_row-clause-number
returns-in_err-next_row-clause-number g c = rw (handed_on c.from_residual.result _ c.from_residual.ensures.1) c.in_err-next_row.ensures.number

pub returns-in_err-next_row-clause-failed : goal.returns-in_err-next_row-clause-failed
returns-in_err-next_row-clause-failed g c = rw (handed_on c.from_residual.result _ c.from_residual.ensures.1) c.in_err-next_row.ensures.failed

pub returns-in_err-at_row-clause-number : goal.returns-in_err-at_row-clause-number
returns-in_err-at_row-clause-number g c = rw (handed_on c.from_residual-in_err-at_row.result _ c.from_residual-in_err-at_row.ensures.1)
    (refused_at c.args.number c.add.result c.at_row.result _ c.at_row.ensures.same c.in_err-at_row.was)

pub returns-in_err-at_row-clause-failed : goal.returns-in_err-at_row-clause-failed
returns-in_err-at_row-clause-failed g c =
    rw (handed_on c.from_residual-in_err-at_row.result _ c.from_residual-in_err-at_row.ensures.1)
    (λ failed. absurd (refused_own c.args.draft.now c.add.new.self c.args.number (fields_of c.next_row.new.row) c.add.result c.at_row.result _
    c.at_row.ensures.same c.in_err-at_row.was c.add.ensures.exact failed))

pub returns-then-not-branch-clause-last : goal.returns-then-not-branch-clause-last
returns-then-not-branch-clause-last g c = λ none.
    none_there c.in_ok-next_row.field-0 (rows_left g.R.Read.remaining c.args.rows.now) (rows_left g.R.Read.remaining c.next_row.new.rows) c.args.number
    (fields_of c.next_row.new.row) c.if-not-branch.true c.in_ok-next_row.ensures.exact

pub returns-clause-last : goal.returns-clause-last
returns-clause-last g c = λ none. absurd (true≢false none)

pub returns-in_err-next_row-clause-gives : goal.returns-in_err-next_row-clause-gives
returns-in_err-next_row-clause-gives g c = rw (handed_on c.from_residual.result _ c.from_residual.ensures.1) tt

pub returns-in_err-next_row-clause-last : goal.returns-in_err-next_row-clause-last
returns-in_err-next_row-clause-last g c = rw (handed_on c.from_residual.result _ c.from_residual.ensures.1) tt

pub returns-in_err-next_row-clause-draft : goal.returns-in_err-next_row-clause-draft
returns-in_err-next_row-clause-draft g c = rw (handed_on c.from_residual.result _ c.from_residual.ensures.1) tt

pub returns-in_err-next_row-clause-kept : goal.returns-in_err-next_row-clause-kept
returns-in_err-next_row-clause-kept g c = rw (handed_on c.from_residual.result _ c.from_residual.ensures.1) tt

pub returns-in_err-next_row-clause-rows : goal.returns-in_err-next_row-clause-rows
returns-in_err-next_row-clause-rows g c = rw (handed_on c.from_residual.result _ c.from_residual.ensures.1) tt

pub returns-in_err-next_row-clause-ended : goal.returns-in_err-next_row-clause-ended
returns-in_err-next_row-clause-ended g c = rw (handed_on c.from_residual.result _ c.from_residual.ensures.1) tt

pub returns-then-not-branch-clause-gives : goal.returns-then-not-branch-clause-gives
returns-then-not-branch-clause-gives g c = c.in_ok-next_row.ensures.gives

pub returns-then-not-branch-clause-number : goal.returns-then-not-branch-clause-number
returns-then-not-branch-clause-number g c = tt

pub returns-then-not-branch-clause-failed : goal.returns-then-not-branch-clause-failed
returns-then-not-branch-clause-failed g c = tt

pub returns-then-not-branch-clause-draft : goal.returns-then-not-branch-clause-draft
returns-then-not-branch-clause-draft g c = c.requires.draft

pub returns-then-not-branch-clause-kept : goal.returns-then-not-branch-clause-kept
returns-then-not-branch-clause-kept g c = c.requires.kept

pub returns-then-not-branch-clause-rows : goal.returns-then-not-branch-clause-rows
returns-then-not-branch-clause-rows g c = λ found. absurd (false≢true found)

pub returns-then-not-branch-clause-ended : goal.returns-then-not-branch-clause-ended
returns-then-not-branch-clause-ended g c = λ none. refl

pub add-requires-clause-draft : goal.add-requires-clause-draft
add-requires-clause-draft g c = c.requires.draft

pub add-requires-clause-kept : goal.add-requires-clause-kept
add-requires-clause-kept g c = c.requires.kept

pub add-requires-clause-text : goal.add-requires-clause-text
add-requires-clause-text g c = c.in_ok-next_row.ensures.text

pub returns-in_err-at_row-clause-gives : goal.returns-in_err-at_row-clause-gives
returns-in_err-at_row-clause-gives g c = rw (handed_on c.from_residual-in_err-at_row.result _ c.from_residual-in_err-at_row.ensures.1) tt

pub returns-in_err-at_row-clause-last : goal.returns-in_err-at_row-clause-last
returns-in_err-at_row-clause-last g c = rw (handed_on c.from_residual-in_err-at_row.result _ c.from_residual-in_err-at_row.ensures.1) tt

pub returns-in_err-at_row-clause-draft : goal.returns-in_err-at_row-clause-draft
returns-in_err-at_row-clause-draft g c = rw (handed_on c.from_residual-in_err-at_row.result _ c.from_residual-in_err-at_row.ensures.1) tt

pub returns-in_err-at_row-clause-kept : goal.returns-in_err-at_row-clause-kept
returns-in_err-at_row-clause-kept g c = rw (handed_on c.from_residual-in_err-at_row.result _ c.from_residual-in_err-at_row.ensures.1) tt

pub returns-in_err-at_row-clause-rows : goal.returns-in_err-at_row-clause-rows
returns-in_err-at_row-clause-rows g c = rw (handed_on c.from_residual-in_err-at_row.result _ c.from_residual-in_err-at_row.ensures.1) tt

pub returns-in_err-at_row-clause-ended : goal.returns-in_err-at_row-clause-ended
returns-in_err-at_row-clause-ended g c = rw (handed_on c.from_residual-in_err-at_row.result _ c.from_residual-in_err-at_row.ensures.1) tt

pub returns-clause-gives : goal.returns-clause-gives
returns-clause-gives g c = c.in_ok-next_row.ensures.gives

pub returns-clause-number : goal.returns-clause-number
returns-clause-number g c = tt

pub returns-clause-failed : goal.returns-clause-failed
returns-clause-failed g c = tt

pub returns-clause-draft : goal.returns-clause-draft
returns-clause-draft g c = went c.add.result c.at_row.result _ _ _ c.at_row.ensures.same c.in_ok-at_row.was c.add.ensures.draft

pub returns-clause-rows : goal.returns-clause-rows
returns-clause-rows g c = λ found. went c.add.result c.at_row.result _ _ _ c.at_row.ensures.same c.in_ok-at_row.was c.add.ensures.rows

pub returns-clause-ended : goal.returns-clause-ended
returns-clause-ended g c = λ none. absurd (true≢false none)
