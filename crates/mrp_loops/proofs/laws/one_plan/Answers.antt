use Rattle.mrp_loops.proofs.OnePlan as plans
use Rattle.mrp_loops.proofs.laws.one_plan.Goals as goal

pub returns : goal.returns
returns c = plans.one_plan
