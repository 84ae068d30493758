use Rattle.std.proofs.Common.{arith}
use Rattle.mrp_report.proofs.DigitFacts.{sixteen}
use Rattle.mrp_report.proofs.plan.quantity_before.Goals as goal

pub number_before-requires-clause-room : goal.number_before-requires-clause-room
number_before-requires-clause-room c = omega (arith, sixteen c.get.result c.get.ensures.within)

pub returns-clause-longest : goal.returns-clause-longest
returns-clause-longest c = omega (arith, sixteen c.get.result c.get.ensures.within, c.number_before.ensures.start)
