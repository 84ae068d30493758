use Rattle.std.proofs.Common.{ap, arith, length, List, ℕ}
use Rattle.mrp_netting.specs.PlanRows.{PlanRows}
use Rattle.mrp_shortages.proofs.There.{firms_within, order_length, some_period}
use Rattle.mrp_shortages.proofs.shortage.made_at_once.Goals as goal

pub firm_pieces-requires : goal.firm_pieces-requires
firm_pieces-requires c = firms_within c.args.network.now c.args.x.0 c.firm_orders.result.now c.requires.sized c.requires.pair c.firm_orders.ensures.value

pub get-requires : goal.get-requires
get-requires c =
    let N = c.args.network.now in
    omega (
      arith,
      some_period N c.requires.sized.table,
      order_length N c.args.plan.now c.args.x.0 c.requires.fits c.requires.pair,
      ap (λ (row : List ℕ). length row) c.order.ensures,
      ap (λ (r : PlanRows). length r.order) c.pair.ensures,
    )
