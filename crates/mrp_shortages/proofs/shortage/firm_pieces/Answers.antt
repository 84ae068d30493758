use Rattle.std.proofs.Common.{◌==◌, cond, ap, arith, List}
use Rattle.std.proofs.lemmas.List.{drop_all}
use Rattle.std.proofs.lemmas.List.Sums.{sum_by-drop_more}
use Rattle.mrp_master_data.specs.declared.rows.FirmRow.{FirmRow}
use Rattle.mrp_net.specs.FirmOrders.{due_in}
use Rattle.mrp_shortages.proofs.There.{due_le}
use Rattle.mrp_shortages.proofs.shortage.firm_pieces.Goals as goal

pub overflow_add-pieces : goal.overflow_add-pieces
overflow_add-pieces c =
    omega (
      arith,
      c.orders.invariant,
      c.pieces_now-pieces.ensures,
      ap (λ (f : FirmRow). cond (f.due == 0) f.quantity 0) c.order-item.is,
      sum_by-drop_more (λ (f : FirmRow). cond (f.due == 0) f.quantity 0) c.args.orders.now c.orders.order-index c.order-item.result c.orders-test.true,
      due_le c.args.orders.now 0,
      c.requires,
    )

pub orders-preserved : goal.orders-preserved
orders-preserved c =
    omega (
      arith,
      c.orders.invariant,
      c.pieces_now-pieces.ensures,
      ap (λ (f : FirmRow). cond (f.due == 0) f.quantity 0) c.order-item.is,
      sum_by-drop_more (λ (f : FirmRow). cond (f.due == 0) f.quantity 0) c.args.orders.now c.orders.order-index c.order-item.result c.orders-test.true,
    )

-- no order is left
pub returns-clause-pieces : goal.returns-clause-pieces
returns-clause-pieces c =
    let none = ap (λ (fs : List FirmRow). due_in fs 0) (drop_all c.orders.order-index c.args.orders.now (omega (arith, c.orders-test.false))) in
    omega (arith, c.orders.invariant, none)

pub returns-clause-within : goal.returns-clause-within
returns-clause-within c = omega (arith, c.orders.invariant, due_le c.args.orders.now 0, c.requires)
