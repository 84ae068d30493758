use Rattle.std.proofs.Common.{arith, append-nil, sym, ◌∙◌}
use Rattle.mrp_record_csv.proofs.Rows.{field_added, grows_on, grows_twice, on_err, row_added}
use Rattle.mrp_record_csv.proofs.writing.put_row.Goals as goal

pub fields-init : goal.fields-init
fields-init c = record { so_far = c.in_ok-extend_from_slice.ensures.items ∙ sym (append-nil _) }

pub returns-in_err-push-clause-kept : goal.returns-in_err-push-clause-kept
returns-in_err-push-clause-kept c =
    on_err _ (grows_twice c.args.out.now.items c.args.word.now _ _ (c.in_err-push.ensures.items ∙ c.fields.invariant.so_far))

pub returns-in_err-extend_from_slice-2-clause-kept : goal.returns-in_err-extend_from_slice-2-clause-kept
returns-in_err-extend_from_slice-2-clause-kept c =
    let before = grows_twice c.args.out.now.items c.args.word.now _ _ c.fields.invariant.so_far in
    on_err _ (grows_on c.args.out.now.items c.fields.out.items _ _ before (c.in_err-extend_from_slice-2.ensures.items ∙ c.in_ok-push.ensures.items))

pub fields-preserved : goal.fields-preserved
fields-preserved c = record {
  so_far = field_added (λ f. f.now) c.args.out.now.items c.fields.out.items c.push.new.self.items c.extend_from_slice-in-fields.new.self.items c.args.word.now
      c.args.fields.now c.fields.field-index _
      (omega arith) c.fields.invariant.so_far c.in_ok-push.ensures.items c.in_ok-extend_from_slice-2.ensures.items;
}

pub returns-in_err-push-2-clause-kept : goal.returns-in_err-push-2-clause-kept
returns-in_err-push-2-clause-kept c =
    on_err _ (grows_twice c.args.out.now.items c.args.word.now _ _ (c.in_err-push-2.ensures.items ∙ c.fields.invariant.so_far))

pub returns-clause-written : goal.returns-clause-written
returns-clause-written c =
    row_added (λ f. f.now) c.args.out.now.items c.fields.out.items c.push-2.new.self.items c.args.word.now c.args.fields.now c.fields.field-index
    (omega arith) c.fields.invariant.so_far c.in_ok-push-2.ensures.items
