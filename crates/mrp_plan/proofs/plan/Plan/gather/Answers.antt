use Rattle.std.proofs.Common.{rules}
use Rattle.mrp_plan.proofs.plan.Plan.gather.Goals as goal

pub returns : goal.returns
returns c = search rules
