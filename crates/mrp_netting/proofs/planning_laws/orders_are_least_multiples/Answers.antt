use Rattle.mrp_netting.proofs.DataRows.{orders_are_least_multiples}
use Rattle.mrp_netting.proofs.planning_laws.orders_are_least_multiples.Goals as goal

pub returns : goal.returns
returns c = orders_are_least_multiples
