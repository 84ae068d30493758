use Rattle.std.proofs.Common.{rules}
use Rattle.mrp_net.proofs.lane.Lane.customer.Goals as goal

pub returns-in-Despatch : goal.returns-in-Despatch
returns-in-Despatch c = search rules
