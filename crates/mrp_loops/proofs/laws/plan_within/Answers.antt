use Rattle.mrp_loops.proofs.Within as within
use Rattle.mrp_loops.proofs.laws.plan_within.Goals as goal

pub returns : goal.returns
returns c = within.plan_is_within
