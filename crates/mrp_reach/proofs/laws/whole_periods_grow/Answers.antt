use Rattle.mrp_reach.proofs.WholePeriods.{wholes_grow}
use Rattle.mrp_reach.proofs.laws.whole_periods_grow.Goals as goal

pub returns : goal.returns
returns c = wholes_grow
