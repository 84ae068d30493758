use Rattle.std.proofs.Common.{◌≡◌, ◌∙◌, true, false}
use Rattle.std.proofs.lemmas.List.{get_or_default}
use Rattle.mrp_advice.specs.OpenOrders.{no_order, open_order_at}
use Rattle.mrp_advice.proofs.LineFacts.{others_next, receipts_next, room_next, rows_next}
use Rattle.mrp_advice.proofs.advice_report.put_messages.Goals as goal

pub put_next-requires-clause-room_of_receipts : goal.put_next-requires-clause-room_of_receipts
put_next-requires-clause-room_of_receipts c =
    let orders = c.args.orders.now in
    let i = c.orders.i in
    let order = c.index-orders-i.result in
    let same : order ≡ open_order_at orders i = c.index-orders-i.is ∙ get_or_default orders i order no_order c.orders-test.true in
    room_next c.args.line.now c.args.policy c.args.lacks.now orders i order same true c.orders.run_outs.receipts.pieces c.orders-test.true
    c.orders.invariant.receipts c.requires.advised.pieces

pub put_next-requires-clause-room_of_others : goal.put_next-requires-clause-room_of_others
put_next-requires-clause-room_of_others c =
    let orders = c.args.orders.now in
    let i = c.orders.i in
    let order = c.index-orders-i.result in
    let same : order ≡ open_order_at orders i = c.index-orders-i.is ∙ get_or_default orders i order no_order c.orders-test.true in
    room_next c.args.line.now c.args.policy c.args.lacks.now orders i order same false c.orders.run_outs.others.pieces c.orders-test.true
    c.orders.invariant.others c.requires.advised.pieces

pub orders-preserved : goal.orders-preserved
orders-preserved c =
    let line = c.args.line.now in
    let policy = c.args.policy in
    let lacks = c.args.lacks.now in
    let orders = c.args.orders.now in
    let i = c.orders.i in
    let order = c.index-orders-i.result in
    let was = c.orders.invariant in
    let same : order ≡ open_order_at orders i = c.index-orders-i.is ∙ get_or_default orders i order no_order c.orders-test.true in
    record {
      between = c.in_ok-put_next.ensures.between;
      run_outs = c.put_next.ensures.run_outs;
      receipts = receipts_next line policy lacks orders i order same c.orders.run_outs.receipts.pieces c.put_next.new.run_outs.receipts.pieces
          c.orders-test.true was.receipts c.put_next.ensures.receipts;
      others = others_next line policy lacks orders i order same c.orders.run_outs.others.pieces c.put_next.new.run_outs.others.pieces
          c.orders-test.true was.others c.put_next.ensures.others;
      so_far = rows_next line policy lacks orders i order same c.orders.run_outs _ _ _ was.receipts was.others was.so_far c.in_ok-put_next.ensures.row;
    }
