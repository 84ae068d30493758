use Rattle.std.proofs.Common.{length, suc, sym, arith}
use Rattle.std.proofs.lemmas.List.FromFn.{fill_by_all}
use Rattle.mrp_netting.specs.PlanningData.{order_at, balance_before}
use Rattle.mrp_netting.specs.PlanningBound.{data_of}
use Rattle.mrp_netting.proofs.DataLaws.{balance_before-zero}
use Rattle.mrp_netting.proofs.orders.order_when_required.Goals as goal

pub loop-t-init : goal.loop-t-init
loop-t-init c = record {
  before = sym (balance_before-zero (data_of c.args.given.now c.args.gross.now));
  order_len = c.requires.order_room;
  available_len = c.requires.available_room;
  order = λ k h. absurd (omega arith);
  available = λ k h. absurd (omega arith);
}

pub returns-clause-orders : goal.returns-clause-orders
returns-clause-orders c =
    let inv = c.loop-t.invariant in
    fill_by_all (order_at (data_of c.args.given.now c.args.gross.now)) c.loop-t.order (length c.args.gross.now) 0
    inv.order_len (λ k h. inv.order k (omega arith))

pub returns-clause-balances : goal.returns-clause-balances
returns-clause-balances c =
    let inv = c.loop-t.invariant in
    fill_by_all (λ j. balance_before (data_of c.args.given.now c.args.gross.now) (suc j)) c.loop-t.available (length c.args.gross.now) 0
    inv.available_len (λ k h. inv.available k (omega arith))
