use Rattle.std.proofs.Common.{arith}
use Rattle.std.proofs.lemmas.Grind.{common_steps, elements}
use Rattle.mrp_qty.proofs.row.Row.add_times.Goals as goal

pub invariant_of-self : goal.invariant_of-self
invariant_of-self c = grind (arith, elements)

pub returns-clause-each : goal.returns-clause-each
returns-clause-each c = grind (arith, common_steps)

pub returns-clause-size : goal.returns-clause-size
returns-clause-size c = grind (arith, common_steps)
