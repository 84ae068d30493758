use Rattle.std.proofs.Common.{arith}
use Rattle.std.proofs.lemmas.List.{length-map}
use Rattle.csv.specs.Writing.{writer_setup}
use Rattle.mrp_csv_out.specs.Writing.{written}
use Rattle.mrp_csv_out.proofs.RowFacts.{row_added}
use Rattle.mrp_csv_out.proofs.rows.put_row.Goals as goal

pub returns-clause-row : goal.returns-clause-row
returns-clause-row c =
    row_added (writer_setup c.args.rows.now) (written c.args.rows.now) (written c.write_fields.new.self) _ c.requires.between.setup
    (omega (arith, c.requires.many, length-map c.args.fields.now (λ field. field.now)))
    (c.in-Ok.ensures.bytes c.requires.between.fields c.requires.between.bytes)
