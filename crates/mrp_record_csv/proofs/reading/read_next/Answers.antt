use Rattle.std.proofs.Common.{◌≡◌, Err, Ok, length, refl, rules, sym, ◌∙◌}
use Rattle.csv.specs.Reading.{has_failed}
use Rattle.csv.specs.Records.{fields_of}
use Rattle.mrp_validation.specs.Left.{rows_left}
use Rattle.mrp_validation.proofs.KeepingSteps.{handed_on}
use Rattle.mrp_record_csv.proofs.Listed.{no_read_fault}
use Rattle.mrp_record_csv.proofs.Loop.{adds_record, bad_told, fault_told, none_there, room_for, some_there, stops_full}
use Rattle.mrp_record_csv.proofs.Spelling.{text_record}
use Rattle.mrp_record_csv.proofs.reading.read_next.Goals as goal

pub returns-in_err-next_row-clause-exact : goal.returns-in_err-next_row-clause-exact
returns-in_err-next_row-clause-exact g c =
    let counted : c.len.result ≡ length c.args.records.now.items = search rules in
    let room = room_for c.args.most (length c.args.records.now.items) c.len.result (Err c.in_err-next_row.field-0.0) counted c.in_err-next_row.ensures.room in
    rw (handed_on c.from_residual.result _ c.from_residual.ensures.1)
    (bad_told c.args.most c.args.items.now (rows_left g.R.Read.remaining c.args.rows.now) _ _ room (c.in_err-next_row.ensures.exact c.args.items.now))

pub returns-then-not-branch-clause-exact : goal.returns-then-not-branch-clause-exact
returns-then-not-branch-clause-exact g c = (
  refl,
  none_there c.args.items.now c.in_ok-next_row.field-0 (rows_left g.R.Read.remaining c.args.rows.now)
      (rows_left g.R.Read.remaining c.next_row.new.rows) (fields_of c.next_row.new.row) c.if-not-branch.true
      (c.in_ok-next_row.ensures.exact c.args.items.now),
)

pub returns-in_err-spelled_record-clause-exact : goal.returns-in_err-spelled_record-clause-exact
returns-in_err-spelled_record-clause-exact g c =
    let N = c.args.items.now in
    let row = fields_of c.next_row.new.row in
    let counted : c.len.result ≡ length c.args.records.now.items = search rules in
    let room = room_for c.args.most (length c.args.records.now.items) c.len.result (Ok c.in_ok-next_row.field-0) counted c.in_ok-next_row.ensures.room c.if-not-branch.false
    in
    let takes = some_there N c.in_ok-next_row.field-0 (rows_left g.R.Read.remaining c.args.rows.now)
    (rows_left g.R.Read.remaining c.next_row.new.rows) row c.if-not-branch.false (c.in_ok-next_row.ensures.exact N) in
    rw (handed_on c.from_residual-in_err-spelled_record.result _ c.from_residual-in_err-spelled_record.ensures.1)
    (fault_told c.args.most N (rows_left g.R.Read.remaining c.args.rows.now) (rows_left g.R.Read.remaining c.next_row.new.rows) row _ _ room takes
    (text_record N row c.in_ok-next_row.ensures.text ∙ sym c.in_err-spelled_record.ensures))

pub returns-clause-exact : goal.returns-clause-exact
returns-clause-exact g c =
    let N = c.args.items.now in
    let row = fields_of c.next_row.new.row in
    let counted : c.len.result ≡ length c.args.records.now.items = search rules in
    let room = room_for c.args.most (length c.args.records.now.items) c.len.result (Ok c.in_ok-next_row.field-0) counted c.in_ok-next_row.ensures.room c.if-not-branch.false
    in
    let takes = some_there N c.in_ok-next_row.field-0 (rows_left g.R.Read.remaining c.args.rows.now)
    (rows_left g.R.Read.remaining c.next_row.new.rows) row c.if-not-branch.false (c.in_ok-next_row.ensures.exact N) in
    adds_record c.args.most N (rows_left g.R.Read.remaining c.args.rows.now)
    (rows_left g.R.Read.remaining c.next_row.new.rows) row c.args.records.now.items c.push.new.self.items _ room takes
    (sym c.in_ok-spelled_record.ensures) c.in_ok-push.ensures.items

pub returns-in_err-next_row-clause-failed : goal.returns-in_err-next_row-clause-failed
returns-in_err-next_row-clause-failed g c =
    let counted : c.len.result ≡ length c.args.records.now.items = search rules in
    rw (handed_on c.from_residual.result _ c.from_residual.ensures.1)
    (stops_full _ (has_failed c.next_row.new.rows) c.args.most (length c.args.records.now.items) c.len.result
    (rows_left g.R.Read.remaining c.args.rows.now) counted c.in_err-next_row.ensures.failed)

pub returns-in_err-spelled_record-clause-failed : goal.returns-in_err-spelled_record-clause-failed
returns-in_err-spelled_record-clause-failed g c = rw (handed_on c.from_residual-in_err-spelled_record.result _ c.from_residual-in_err-spelled_record.ensures.1)
    (λ is. absurd (no_read_fault c.args.items.now (fields_of c.next_row.new.row) _ (sym c.in_err-spelled_record.ensures) is))
