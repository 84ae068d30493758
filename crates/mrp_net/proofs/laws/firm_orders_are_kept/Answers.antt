use Rattle.mrp_net.proofs.Firms.{firms_are_kept}
use Rattle.mrp_net.proofs.laws.firm_orders_are_kept.Goals as goal

pub returns : goal.returns
returns c = firms_are_kept
