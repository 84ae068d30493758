use Rattle.csv.specs.Records.{fields_of}
use Rattle.mrp_validation.specs.Left.{rows_left}
use Rattle.mrp_validation.proofs.KeepingSteps.{handed_on}
use Rattle.mrp_validation.proofs.Loop.{some_there}
use Rattle.mrp_tables.proofs.ThreadFacts.{begun_bad, begun_fault, begun_none, begun_rest, begun_rest_fault}
use Rattle.mrp_tables.proofs.threads.first_rows_of.Goals as goal
use Rattle.std.proofs.Common.{◌∙◌}

pub returns-in_err-next_row-clause-exact : goal.returns-in_err-next_row-clause-exact
returns-in_err-next_row-clause-exact g c =
    rw (handed_on c.from_residual.result _ c.from_residual.ensures.1)
    (begun_bad c.args.limits (rows_left g.R.Read.remaining c.args.rows.now) _ c.in_err-next_row.ensures.number c.in_err-next_row.ensures.exact)

pub returns-then-not-branch-clause-exact : goal.returns-then-not-branch-clause-exact
returns-then-not-branch-clause-exact g c = begun_none c.args.limits (rows_left g.R.Read.remaining c.args.rows.now)

pub returns-in_err-draft-clause-exact : goal.returns-in_err-draft-clause-exact
returns-in_err-draft-clause-exact g c =
    let takes = some_there c.in_ok-next_row.field-0 (rows_left g.R.Read.remaining c.args.rows.now) (rows_left g.R.Read.remaining c.next_row.new.rows) 1
    (fields_of c.next_row.new.row) c.if-not-branch.false c.in_ok-next_row.ensures.exact in
    rw (handed_on c.from_residual-in_err-draft.result _ c.from_residual-in_err-draft.ensures.1)
    (begun_fault c.args.limits (rows_left g.R.Read.remaining c.args.rows.now) (rows_left g.R.Read.remaining c.next_row.new.rows) (fields_of c.next_row.new.row)
    _ takes
    c.in_err-draft.ensures.exact)

pub returns-in-Ok-clause-exact : goal.returns-in-Ok-clause-exact
returns-in-Ok-clause-exact g c =
    let takes = some_there c.in_ok-next_row.field-0 (rows_left g.R.Read.remaining c.args.rows.now) (rows_left g.R.Read.remaining c.next_row.new.rows) 1
    (fields_of c.next_row.new.row) c.if-not-branch.false c.in_ok-next_row.ensures.exact in
    begun_rest c.args.limits (fields_of c.next_row.new.row) c.in_ok-draft.draft c.read_on.new.draft c.in_ok-draft.ensures.exact c.in_ok-draft.ensures.rows
    (rows_left g.R.Read.remaining c.args.rows.now) (rows_left g.R.Read.remaining c.next_row.new.rows) takes c.in-Ok.ensures.exact

pub returns-in-Err-clause-exact : goal.returns-in-Err-clause-exact
returns-in-Err-clause-exact g c =
    let takes = some_there c.in_ok-next_row.field-0 (rows_left g.R.Read.remaining c.args.rows.now) (rows_left g.R.Read.remaining c.next_row.new.rows) 1
    (fields_of c.next_row.new.row) c.if-not-branch.false c.in_ok-next_row.ensures.exact in
    begun_rest_fault c.args.limits (fields_of c.next_row.new.row) c.in_ok-draft.draft c.read_on.new.draft c.in_ok-draft.ensures.exact c.in_ok-draft.ensures.rows
    (rows_left g.R.Read.remaining c.args.rows.now) (rows_left g.R.Read.remaining c.next_row.new.rows) c.in-Err.fault takes c.in-Err.ensures.exact

pub returns-in-Ok-clause-limits : goal.returns-in-Ok-clause-limits
returns-in-Ok-clause-limits g c = c.in-Ok.ensures.limits ∙ c.in_ok-draft.ensures.limits
