use Rattle.std.proofs.Common.{Err, List, ℕ, Option, option_map, subst}
use Rattle.csv.specs.Reading.{strip_bom}
use Rattle.mrp_validation.specs.Left.{OfLeft}
use Rattle.mrp_validation.specs.Reading.{TellsRows, TellsRowsAs}
use Rattle.mrp_validation.specs.Written.{OfRecords}
use Rattle.mrp_tables.specs.Pieces.{BeginsWith, rows_of_bytes}
use Rattle.mrp_tables.specs.Sources.{left_of}
use Rattle.mrp_tables.proofs.Asked.{left_as}
use Rattle.mrp_tables.proofs.ThreadFacts.{kept_records, of_bytes}
use Rattle.mrp_tables.proofs.threads.read_tables_by_blocks.Goals as goal
use Rattle.std.proofs.Common.{◌≡◌, IfOk}
use Rattle.mrp_qty.specs.declared.limits.LimitSet.{LimitSet}

pub returns-in-Ok-None-clause-table : goal.returns-in-Ok-None-clause-table
returns-in-Ok-None-clause-table g c =
    subst (λ (known : Option (List ℕ)). OfRecords (option_map strip_bom known) (TellsRowsAs c.args.reading c.read_tables_uncounted.result)) c.new-source.ensures
    (kept_records (left_of g.R.Read.remaining c.new-source.result) (left_of g.R.Read.remaining c.begin.new.source)
    (TellsRowsAs c.args.reading c.read_tables_uncounted.result) (rw c.in-Ok-None.field-0-is at c.in-Ok-None.ensures.exact)
    c.read_tables_uncounted.ensures.table)

pub returns-in-Ok-Some-clause-table : goal.returns-in-Ok-Some-clause-table
returns-in-Ok-Some-clause-table g c =
    of_bytes (option_map strip_bom (g.R.Read.remaining c.args.reader)) (TellsRowsAs c.args.reading c.finish-read.result)
    (c.finish-read.ensures.exact (rows_of_bytes (option_map strip_bom (g.R.Read.remaining c.args.reader)))
    (subst (λ (known : Option (List ℕ)). BeginsWith c.args.reading.limits (rows_of_bytes (option_map strip_bom known))
    (rows_of_bytes (left_of g.R.Read.remaining c.begin.new.source))
    c.in-Ok-Some.draft) c.new-source.ensures (rw c.in-Ok-Some.field-0-is at c.in-Ok-Some.ensures.exact)))

pub returns-in-Err-clause-table : goal.returns-in-Err-clause-table
returns-in-Err-clause-table g c =
    let text = option_map strip_bom (g.R.Read.remaining c.args.reader) in
    of_bytes text _
    (left_as c.args.reading (rows_of_bytes text) c.in-Err.fault
    (subst (λ (known : Option (List ℕ)). OfLeft (rows_of_bytes (option_map strip_bom known)) (TellsRows c.args.reading.limits (Err c.in-Err.fault)))
    c.new-source.ensures
    c.in-Err.ensures.exact))

pub returns-in-Ok-Some-clause-limits : goal.returns-in-Ok-Some-clause-limits
returns-in-Ok-Some-clause-limits g c =
    subst (λ (s : LimitSet). IfOk c.finish-read.result (λ tables. tables.limits ≡ s)) (rw c.in-Ok-Some.field-0-is at c.in-Ok-Some.ensures.limits)
    c.finish-read.ensures.limits
