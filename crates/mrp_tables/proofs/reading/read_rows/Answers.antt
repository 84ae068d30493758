use Rattle.std.proofs.Common.{◌≡◌, ◌+◌, ◌≤◌, max, ℕ, Result, Ok, Err, IfOk, IfErr, ap, arith}
use Rattle.csv.specs.Records.{fields_of}
use Rattle.mrp_validation.specs.Left.{rows_left, OfLeft}
use Rattle.mrp_validation.specs.declared.fault.TableFaultKind.TheVariants as fault
use Rattle.mrp_tables.specs.Steps.{StepsTo}
use Rattle.mrp_master_data.specs.Table.{Table}
use Rattle.mrp_validation.specs.declared.fault.TableFault.{TableFault}
use Rattle.mrp_master_data.specs.Turns.{row_count}
use Rattle.mrp_master_data.specs.Table.{most}
use Rattle.mrp_qty.specs.Limits.{limits_of}
use Rattle.mrp_qty.specs.declared.limits.LimitSet.{LimitSet}
use Rattle.mrp_tables.proofs.TurnCount.{turns_some}
use Rattle.mrp_validation.proofs.LimitsStay.{start_limits}
use Rattle.mrp_validation.proofs.Listed.{first_no_read_fault}
use Rattle.mrp_tables.proofs.Asked.{left_as, whole_as, whole_ends}
use Rattle.mrp_validation.proofs.Loop.{none_there, some_there}
use Rattle.mrp_tables.proofs.StepCount.{first_step, later_step, of_each, of_missing, steps_all, steps_named, waited_own, when_waited}
use Rattle.mrp_validation.proofs.Whole.{bad_first, first_fault, no_first, rest_fault}
use Rattle.mrp_validation.proofs.KeepingSteps.{handed_on}
use Rattle.mrp_tables.proofs.reading.read_rows.Goals as goal
use Rattle.std.proofs.Common.{◌∙◌, subst}

pub returns-in_err-next_row-clause-table : goal.returns-in_err-next_row-clause-table
returns-in_err-next_row-clause-table g c = rw (handed_on c.from_residual.result _ c.from_residual.ensures.1)
    (left_as c.args.reading (rows_left g.R.Read.remaining c.args.rows.now) _
    (bad_first c.args.reading.limits (rows_left g.R.Read.remaining c.args.rows.now) _ c.in_err-next_row.ensures.number c.in_err-next_row.ensures.exact))

pub returns-in_err-draft-clause-table : goal.returns-in_err-draft-clause-table
returns-in_err-draft-clause-table g c =
    let takes = some_there c.in_ok-next_row.field-0 (rows_left g.R.Read.remaining c.args.rows.now) (rows_left g.R.Read.remaining c.next_row.new.rows) 1
    (fields_of c.next_row.new.row) c.if-not-branch.false c.in_ok-next_row.ensures.exact in
    rw (handed_on c.from_residual-in_err-draft.result _ c.from_residual-in_err-draft.ensures.1)
    (left_as c.args.reading (rows_left g.R.Read.remaining c.args.rows.now) _
    (first_fault c.args.reading.limits (rows_left g.R.Read.remaining c.args.rows.now) (rows_left g.R.Read.remaining c.next_row.new.rows)
    (fields_of c.next_row.new.row) _ takes c.in_err-draft.ensures.exact))

pub returns-in-Ok-clause-table : goal.returns-in-Ok-clause-table
returns-in-Ok-clause-table g c =
    let takes = some_there c.in_ok-next_row.field-0 (rows_left g.R.Read.remaining c.args.rows.now) (rows_left g.R.Read.remaining c.next_row.new.rows) 1
    (fields_of c.next_row.new.row) c.if-not-branch.false c.in_ok-next_row.ensures.exact in
    whole_as c.args.reading (rows_left g.R.Read.remaining c.args.rows.now) (rows_left g.R.Read.remaining c.next_row.new.rows)
    (fields_of c.next_row.new.row) c.in_ok-draft.draft.lists c.in_ok-draft.draft.last c.read_rest.new.draft.lists _
    takes c.in_ok-draft.ensures.exact c.in-Ok.ensures.exact c.accept.ensures.exact

pub returns-in-Ok-clause-whole : goal.returns-in-Ok-clause-whole
returns-in-Ok-clause-whole g c = whole_ends c.args.reading c.read_rest.new.draft.lists c.accept.result c.accept.ensures.exact

pub returns-in_err-next_row-clause-whole : goal.returns-in_err-next_row-clause-whole
returns-in_err-next_row-clause-whole g c = rw (handed_on c.from_residual.result _ c.from_residual.ensures.1) tt

pub returns-in_err-draft-clause-whole : goal.returns-in_err-draft-clause-whole
returns-in_err-draft-clause-whole g c = rw (handed_on c.from_residual-in_err-draft.result _ c.from_residual-in_err-draft.ensures.1) tt

pub returns-then-not-branch-clause-whole : goal.returns-then-not-branch-clause-whole
returns-then-not-branch-clause-whole g c = tt

pub returns-clause-whole : goal.returns-clause-whole
returns-clause-whole g c = tt

-- a turn for the first row, and so many more
counted : {E : Type 0} (r : Result Table E) (N : Table) (new mid old rows : ℕ) → IfOk r (λ t. t ≡ N) → mid ≡ old + 1 → new ≡ mid + rows → rows ≡ row_count N
    → IfOk r (λ t. new ≡ old + row_count t + 1)
counted (Ok t) N new mid old rows same first more is = omega (arith, ap row_count same, first, more, is)
counted (Err e) N new mid old rows same first more is = tt

pub returns-in-Ok-clause-counted : goal.returns-in-Ok-clause-counted
returns-in-Ok-clause-counted g c =
    let rest = c.in-Ok.ensures in
    counted c.accept.result c.read_rest.new.draft.lists _ _ _ _ c.accept.ensures.same c.tick.ensures rest.counted rest.draft.count

empty_read : fault.Empty ≡ fault.ReadFault → ⊥
empty_read e = cc

pub returns-in_err-next_row-clause-failed : goal.returns-in_err-next_row-clause-failed
returns-in_err-next_row-clause-failed g c = rw (handed_on c.from_residual.result _ c.from_residual.ensures.1) c.in_err-next_row.ensures.failed

pub returns-in_err-draft-clause-failed : goal.returns-in_err-draft-clause-failed
returns-in_err-draft-clause-failed g c =
    rw (handed_on c.from_residual-in_err-draft.result _ c.from_residual-in_err-draft.ensures.1)
    (λ failed. absurd (first_no_read_fault c.args.reading.limits (fields_of c.next_row.new.row) _ c.in_err-draft.ensures.exact.0 failed))

pub returns-in-Ok-clause-failed : goal.returns-in-Ok-clause-failed
returns-in-Ok-clause-failed g c = waited_own c.read_rest.new.draft.lists c.accept.result _ c.accept.ensures.waited

-- ---- the turns at a fault

least_named : (old new row : ℕ) → row ≡ 1 → new ≡ old + 1 → old + max 1 row ≤ new
least_named old new row first tick = omega (arith, first, tick)

pub returns-in_err-next_row-clause-least : goal.returns-in_err-next_row-clause-least
returns-in_err-next_row-clause-least g c = rw (handed_on c.from_residual.result _ c.from_residual.ensures.1)
    (least_named _ _ _ c.in_err-next_row.ensures.number c.tick.ensures)

pub returns-in_err-draft-clause-least : goal.returns-in_err-draft-clause-least
returns-in_err-draft-clause-least g c = rw (handed_on c.from_residual-in_err-draft.result _ c.from_residual-in_err-draft.ensures.1)
    (least_named _ _ _ c.in_err-draft.ensures.exact.1 c.tick.ensures)

-- the table is all read, so the row that is named then is one of those that were counted, or the one behind them
waited : (r : Result Table TableFault) (N : Table) (new mid old rows : ℕ) → IfErr r (λ e. e.row ≤ row_count N + 1) → mid ≡ old + 1 → new ≡ mid + rows
    → rows ≡ row_count N → IfErr r (λ e. old + max 1 e.row ≤ new)
waited (Ok t) N new mid old rows above first more is = tt
waited (Err e) N new mid old rows above first more is = omega (arith, above, first, more, is)

pub returns-in-Ok-clause-least : goal.returns-in-Ok-clause-least
returns-in-Ok-clause-least g c =
    let rest = c.in-Ok.ensures in
    waited c.accept.result c.read_rest.new.draft.lists _ _ _ _ c.accept.ensures.above c.tick.ensures rest.counted rest.draft.count

-- ---- and exactly

pub returns-in_err-next_row-clause-named : goal.returns-in_err-next_row-clause-named
returns-in_err-next_row-clause-named g c = rw (handed_on c.from_residual.result _ c.from_residual.ensures.1)
    (of_missing _ _ (first_step _ _ _ c.in_err-next_row.ensures.number c.tick.ensures))

pub returns-in_err-draft-clause-named : goal.returns-in_err-draft-clause-named
returns-in_err-draft-clause-named g c = rw (handed_on c.from_residual-in_err-draft.result _ c.from_residual-in_err-draft.ensures.1)
    (of_missing _ _ (first_step _ _ _ c.in_err-draft.ensures.exact.1 c.tick.ensures))

pub returns-in-Ok-clause-named : goal.returns-in-Ok-clause-named
returns-in-Ok-clause-named g c =
    let rest = c.in-Ok.ensures in
    when_waited c.read_rest.new.draft.lists c.accept.result _ _ _ _ c.accept.ensures.waited c.tick.ensures rest.counted rest.draft.count

pub returns-in_err-next_row-clause-ends : goal.returns-in_err-next_row-clause-ends
returns-in_err-next_row-clause-ends g c = rw (handed_on c.from_residual.result _ c.from_residual.ensures.1)
    (steps_named (rows_left g.R.Read.remaining c.args.rows.now) _ _ _ (first_step _ _ _ c.in_err-next_row.ensures.number c.tick.ensures))

pub returns-then-not-branch-clause-ends : goal.returns-then-not-branch-clause-ends
returns-then-not-branch-clause-ends g c = steps_named (rows_left g.R.Read.remaining c.args.rows.now) c.args.steps.now c.tick.new.self 0 c.tick.ensures

pub returns-in_err-draft-clause-ends : goal.returns-in_err-draft-clause-ends
returns-in_err-draft-clause-ends g c =
    rw (handed_on c.from_residual-in_err-draft.result _ c.from_residual-in_err-draft.ensures.1)
    (steps_named (rows_left g.R.Read.remaining c.args.rows.now) _ _ _ (first_step _ _ _ c.in_err-draft.ensures.exact.1 c.tick.ensures))

pub returns-in-Ok-clause-ends : goal.returns-in-Ok-clause-ends
returns-in-Ok-clause-ends g c =
    let takes = some_there c.in_ok-next_row.field-0 (rows_left g.R.Read.remaining c.args.rows.now) (rows_left g.R.Read.remaining c.next_row.new.rows) 1
    (fields_of c.next_row.new.row) c.if-not-branch.false c.in_ok-next_row.ensures.exact in
    of_each c.accept.result (λ e. OfLeft (rows_left g.R.Read.remaining c.args.rows.now) (StepsTo c.args.steps.now c.read_rest.new.steps e.row)) (λ e.
    steps_all (rows_left g.R.Read.remaining c.args.rows.now) (rows_left g.R.Read.remaining c.next_row.new.rows)
    (fields_of c.next_row.new.row) e.row c.args.steps.now c.tick.new.self c.read_rest.new.steps
    takes c.in-Ok.ensures.all c.tick.ensures)

-- ---- a fault of a later row

pub returns-clause-table : goal.returns-clause-table
returns-clause-table g c =
    let takes = some_there c.in_ok-next_row.field-0 (rows_left g.R.Read.remaining c.args.rows.now) (rows_left g.R.Read.remaining c.next_row.new.rows) 1
    (fields_of c.next_row.new.row) c.if-not-branch.false c.in_ok-next_row.ensures.exact in
    left_as c.args.reading (rows_left g.R.Read.remaining c.args.rows.now) _
    (rest_fault c.args.reading.limits (rows_left g.R.Read.remaining c.args.rows.now) (rows_left g.R.Read.remaining c.next_row.new.rows)
    (fields_of c.next_row.new.row) c.in_ok-draft.draft.lists c.in_ok-draft.draft.last c.in-Err.fault takes c.in_ok-draft.ensures.exact
    c.in-Err.ensures.exact)

pub returns-clause-named : goal.returns-clause-named
returns-clause-named g c = of_missing _ _ (later_step _ _ _ _ c.in-Err.ensures.later c.tick.ensures c.in-Err.ensures.least)

pub returns-clause-ends : goal.returns-clause-ends
returns-clause-ends g c =
    steps_named (rows_left g.R.Read.remaining c.args.rows.now) _ _ _ (later_step _ _ _ _ c.in-Err.ensures.later c.tick.ensures c.in-Err.ensures.least)

-- ---- the turns so far

turns_first : (limits : LimitSet) (old new : ℕ) → new ≡ old + 1 → new ≤ old + (limits_of limits).turns
turns_first limits old new tick = omega (arith, tick, turns_some limits)

least_first : (old new : ℕ) → new ≡ old + 1 → old + 1 ≤ new
least_first old new tick = omega (arith, tick)

turns_rest : (limits : LimitSet) (N : Table) (old mid new : ℕ) → N.limits ≡ limits → mid ≡ old + 1 → new + 1 ≤ mid + (most N).turns
    → new ≤ old + (limits_of limits).turns
turns_rest limits N old mid new same tick turns = omega (arith, tick, turns, ap (λ (s : LimitSet). (limits_of s).turns) same)

least_rest : (old mid new row : ℕ) → 2 ≤ row → mid ≡ old + 1 → new + 1 ≡ mid + row → old + max 1 row ≤ new
least_rest old mid new row later tick turns = omega (arith, later, tick, turns)

pub returns-in_err-next_row-clause-counted : goal.returns-in_err-next_row-clause-counted
returns-in_err-next_row-clause-counted g c = rw (handed_on c.from_residual.result _ c.from_residual.ensures.1) tt

pub returns-in_err-next_row-clause-turns : goal.returns-in_err-next_row-clause-turns
returns-in_err-next_row-clause-turns g c = turns_first c.args.reading.limits _ _ c.tick.ensures

pub returns-in_err-draft-clause-counted : goal.returns-in_err-draft-clause-counted
returns-in_err-draft-clause-counted g c = rw (handed_on c.from_residual-in_err-draft.result _ c.from_residual-in_err-draft.ensures.1) tt

pub returns-in_err-draft-clause-turns : goal.returns-in_err-draft-clause-turns
returns-in_err-draft-clause-turns g c = turns_first c.args.reading.limits _ _ c.tick.ensures

pub returns-in-Ok-clause-turns : goal.returns-in-Ok-clause-turns
returns-in-Ok-clause-turns g c = turns_rest c.args.reading.limits c.in_ok-draft.draft.lists _ _ _
    (start_limits c.args.reading.limits c.in_ok-draft.draft.lists _ c.in_ok-draft.ensures.exact.0) c.tick.ensures c.in-Ok.ensures.turns

pub returns-clause-turns : goal.returns-clause-turns
returns-clause-turns g c = turns_rest c.args.reading.limits c.in_ok-draft.draft.lists _ _ _
    (start_limits c.args.reading.limits c.in_ok-draft.draft.lists _ c.in_ok-draft.ensures.exact.0) c.tick.ensures c.in-Err.ensures.turns

pub returns-clause-least : goal.returns-clause-least
returns-clause-least g c = least_rest _ _ _ _ c.in-Err.ensures.later c.tick.ensures c.in-Err.ensures.least

pub returns-then-not-branch-clause-table : goal.returns-then-not-branch-clause-table
returns-then-not-branch-clause-table g c =
    left_as c.args.reading (rows_left g.R.Read.remaining c.args.rows.now) (record { row = 0; kind = fault.Empty })
    (no_first c.args.reading.limits (rows_left g.R.Read.remaining c.args.rows.now)
    (none_there c.in_ok-next_row.field-0 (rows_left g.R.Read.remaining c.args.rows.now)
    (rows_left g.R.Read.remaining c.next_row.new.rows) 1 (fields_of c.next_row.new.row) c.if-not-branch.true c.in_ok-next_row.ensures.exact))

pub returns-then-not-branch-clause-failed : goal.returns-then-not-branch-clause-failed
returns-then-not-branch-clause-failed g c = λ failed. absurd (empty_read failed)

pub returns-then-not-branch-clause-counted : goal.returns-then-not-branch-clause-counted
returns-then-not-branch-clause-counted g c = tt

pub returns-then-not-branch-clause-named : goal.returns-then-not-branch-clause-named
returns-then-not-branch-clause-named g c = c.tick.ensures

pub returns-then-not-branch-clause-least : goal.returns-then-not-branch-clause-least
returns-then-not-branch-clause-least g c = least_first _ _ c.tick.ensures

pub returns-then-not-branch-clause-turns : goal.returns-then-not-branch-clause-turns
returns-then-not-branch-clause-turns g c = turns_first c.args.reading.limits _ _ c.tick.ensures

pub read_rest-requires-clause-gives : goal.read_rest-requires-clause-gives
read_rest-requires-clause-gives g c = c.in_ok-next_row.ensures.gives

pub read_rest-requires-clause-draft : goal.read_rest-requires-clause-draft
read_rest-requires-clause-draft g c = c.in_ok-draft.ensures.draft

pub read_rest-requires-clause-kept : goal.read_rest-requires-clause-kept
read_rest-requires-clause-kept g c = c.in_ok-draft.ensures.kept

pub read_rest-requires-clause-first : goal.read_rest-requires-clause-first
read_rest-requires-clause-first g c = c.in_ok-draft.ensures.rows

pub accept-requires-clause-draft : goal.accept-requires-clause-draft
accept-requires-clause-draft g c = c.in-Ok.ensures.draft

pub accept-requires-clause-kept : goal.accept-requires-clause-kept
accept-requires-clause-kept g c = c.in-Ok.ensures.kept

pub returns-clause-failed : goal.returns-clause-failed
returns-clause-failed g c = c.in-Err.ensures.failed

pub returns-clause-counted : goal.returns-clause-counted
returns-clause-counted g c = tt

-- ---- the limits

pub returns-in-Ok-clause-limits : goal.returns-in-Ok-clause-limits
returns-in-Ok-clause-limits g c =
    subst (λ (s : LimitSet). IfOk c.accept.result (λ tables. tables.limits ≡ s)) (c.in-Ok.ensures.limits ∙ c.in_ok-draft.ensures.limits)
    c.accept.ensures.limits

pub returns-in_err-next_row-clause-limits : goal.returns-in_err-next_row-clause-limits
returns-in_err-next_row-clause-limits g c = rw (handed_on c.from_residual.result _ c.from_residual.ensures.1) tt

pub returns-in_err-draft-clause-limits : goal.returns-in_err-draft-clause-limits
returns-in_err-draft-clause-limits g c = rw (handed_on c.from_residual-in_err-draft.result _ c.from_residual-in_err-draft.ensures.1) tt
