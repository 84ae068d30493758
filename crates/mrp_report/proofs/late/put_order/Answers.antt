use Rattle.std.proofs.Common.{rules}
use Rattle.mrp_report.specs.Parts.{late_row}
use Rattle.mrp_report.proofs.late.put_order.Goals as goal

pub returns-clause-row : goal.returns-clause-row
unfolding late_row
returns-clause-row c = search rules
