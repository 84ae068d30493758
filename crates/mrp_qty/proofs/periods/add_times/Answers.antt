use Rattle.std.proofs.Common.{arith}
use Rattle.std.proofs.lemmas.Grind.{common_steps, elements}
use Rattle.mrp_qty.proofs.periods.add_times.Goals as goal

pub overflow_mul-sum : goal.overflow_mul-sum
overflow_mul-sum c = grind (arith, elements)

pub overflow_add-sum : goal.overflow_add-sum
overflow_add-sum c = grind (arith, elements)

pub of-requires : goal.of-requires
of-requires c = grind (arith, elements)

pub loop-t-preserved : goal.loop-t-preserved
loop-t-preserved c = grind (arith, common_steps)

pub returns : goal.returns
returns c = grind (arith, common_steps)
