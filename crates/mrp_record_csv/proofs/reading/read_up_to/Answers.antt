use Rattle.std.proofs.Common.{◌≤◌, arith, sym}
use Rattle.csv.specs.Reading.{has_failed}
use Rattle.mrp_validation.specs.Left.{rows_left}
use Rattle.mrp_record_csv.proofs.Loop.{count_next, ended, few_next, next_so_far, stopped, stops_all, told_none, told_record}
use Rattle.mrp_record_csv.proofs.reading.read_up_to.Goals as goal

pub returns-in-Ok-false-clause-records : goal.returns-in-Ok-false-clause-records
returns-in-Ok-false-clause-records g c =
    let before = rows_left g.R.Read.remaining c.loop-number.rows in
    let after = rows_left g.R.Read.remaining c.read_next.new.rows in
    let ends = told_none c.args.most c.args.items.now c.in-Ok-false.field-0 before after c.loop-number.records.items c.read_next.new.records.items
    c.in-Ok-false.field-0-test c.in-Ok-false.ensures.exact in
    ended c.args.most c.args.items.now (rows_left g.R.Read.remaining c.args.rows.now) before c.loop-number.records.items c.read_next.new.records.items
    c.loop-number.invariant.so_far c.loop-number.invariant.few ends

pub returns-in-Err-clause-fault : goal.returns-in-Err-clause-fault
returns-in-Err-clause-fault g c =
    stopped c.args.most c.args.items.now (rows_left g.R.Read.remaining c.args.rows.now)
    (rows_left g.R.Read.remaining c.loop-number.rows) c.loop-number.records.items c.loop-number.number c.in-Err.kind
    c.loop-number.invariant.so_far (sym c.loop-number.invariant.count) c.loop-number.invariant.few c.in-Err.ensures.exact

pub returns-in-Err-clause-failed : goal.returns-in-Err-clause-failed
returns-in-Err-clause-failed g c =
    stops_all c.args.most c.args.items.now (rows_left g.R.Read.remaining c.args.rows.now)
    (rows_left g.R.Read.remaining c.loop-number.rows) c.loop-number.records.items c.loop-number.number c.in-Err.kind
    (has_failed c.read_next.new.rows) c.loop-number.invariant.so_far (sym c.loop-number.invariant.count) c.loop-number.invariant.few c.in-Err.ensures.failed

pub loop-number-preserved : goal.loop-number-preserved
loop-number-preserved g c =
    let N = c.args.items.now in
    let all = rows_left g.R.Read.remaining c.args.rows.now in
    let before = rows_left g.R.Read.remaining c.loop-number.rows in
    let after = rows_left g.R.Read.remaining c.read_next.new.rows in
    let old = c.loop-number.records.items in
    let new = c.read_next.new.records.items in
    let adds = told_record c.args.most N c.in-Ok-true.field-0 before after old new c.in-Ok-true.field-0-test c.in-Ok-true.ensures.exact in
    let more = count_next c.args.most N before after old new adds in
    record {
      gives = c.in-Ok-true.ensures.gives;
      so_far = next_so_far c.args.most N all before after old new c.loop-number.invariant.so_far adds;
      few = few_next c.args.most N before after old new adds;
      count = omega (arith, more, c.loop-number.invariant.count);
    }

pub overflow_add-number-end : goal.overflow_add-number-end
overflow_add-number-end g c = let short : c.args.most ≤ 1000000000000000 = c.requires.short in omega (arith, short)

pub unreachable-requires : goal.unreachable-requires
unreachable-requires g c = omega (arith, c.loop-number.invariant.few, c.loop-number.invariant.count, c.loop-number-test.false)
