use Rattle.std.proofs.Common.{sym}
use Rattle.csv.specs.Reading.{has_failed}
use Rattle.csv.specs.Records.{fields_of}
use Rattle.mrp_validation.specs.Left.{rows_left}
use Rattle.mrp_record_csv.proofs.Taking.{one_more}
use Rattle.mrp_record_csv.proofs.reading.next_row.Goals as goal

pub returns-then-is_of_row-clause-failed : goal.returns-then-is_of_row-clause-failed
returns-then-is_of_row-clause-failed g c =
    one_more (rows_left g.R.Read.remaining c.args.rows.now) (rows_left g.R.Read.remaining c.take_row-answer.new.rows)
    (fields_of c.take_row-answer.new.row) c.take_row-answer.result _ (has_failed c.take_row-answer.new.rows) c.args.full
    c.if-full.true (sym c.if-is_of_row.ensures) c.take_row-answer.ensures.exact
