use Rattle.std.proofs.Common.{arith}
use Rattle.mrp_netting.specs.PlanningBound.{data_of}
use Rattle.mrp_netting.proofs.OrderSteps.{need-most}
use Rattle.mrp_netting.proofs.orders.lot_of_needs.Goals as goal

pub lot-requires : goal.lot-requires
lot-requires c =
    let d = data_of c.args.given.now c.args.gross.now in
    record {
      rule = c.requires.within.rule;
      within = omega (arith, c.requires.net, need-most d c.args.before c.args.t 1 c.requires.within);
    }
