use Rattle.std.proofs.Common.{rules}
use Rattle.mrp_run_tests.proofs.plans.is_same_plan.Goals as goal

pub returns-then-is_same_row-5 : goal.returns-then-is_same_row-5
returns-then-is_same_row-5 c = search rules
