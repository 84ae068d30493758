use Rattle.std.proofs.Common.{arith}
use Rattle.std.proofs.lemmas.Grind.{common_steps}
use Rattle.mrp_readiness.proofs.waits.count_joins.Goals as goal

pub overflow_add-waits : goal.overflow_add-waits
overflow_add-waits c = grind (arith, common_steps)

pub loop-join-preserved : goal.loop-join-preserved
loop-join-preserved c = grind (arith, common_steps)

pub returns : goal.returns
returns c = grind (arith, common_steps)
