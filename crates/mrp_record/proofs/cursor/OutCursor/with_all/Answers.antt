use Rattle.std.proofs.Common.{◌≡◌, ap, length, arith}
use Rattle.std.specs.List.{range_with_len}
use Rattle.mrp_record.specs.Cursor.{OutFigures, unsent}
use Rattle.mrp_record.proofs.Queues.{all_fit, all_queued, all_show}
use Rattle.mrp_record.proofs.cursor.OutCursor.with_all.Goals as goal

pub unsent-requires : goal.unsent-requires
unsent-requires c =
    all_fit c.args.size c.in_ok-slots.slots.items c.len-queued.result c.in_ok-slots.ensures (omega (arith, c.len-queued.ensures))

before_all : (c : goal.After-unsent) → c.unsent.result ≡ unsent c.args.size (range_with_len 0 c.args.size)
before_all c =
    let count : c.len-queued.result ≡ length c.in_ok-slots.slots.items = omega (arith, c.len-queued.ensures) in
    all_queued c.args.size c.in_ok-slots.slots.items c.len-queued.result c.unsent.result c.in_ok-slots.ensures count c.unsent.ensures

pub returns-clause-shows : goal.returns-clause-shows
returns-clause-shows c = λ goods. all_show goods c.args.size c.unsent.result (before_all c)

pub returns-clause-size : goal.returns-clause-size
returns-clause-size c = ap (λ (o : OutFigures). o.size) (before_all c)

pub returns-clause-queue : goal.returns-clause-queue
returns-clause-queue c = ap (λ (o : OutFigures). o.queue) (before_all c)
