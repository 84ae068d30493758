use Rattle.std.proofs.Common.{arith}
use Rattle.std.proofs.lemmas.Grind.{common_steps}
use Rattle.mrp_qty.proofs.row.Row.total.Goals as goal

pub loop-quantity-preserved : goal.loop-quantity-preserved
loop-quantity-preserved c = grind (arith, common_steps)
