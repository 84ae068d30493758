use Rattle.std.proofs.Common.{rules}
use Rattle.mrp_report.specs.Codes.{code_row}
use Rattle.mrp_report.proofs.codes.put_code.Goals as goal

pub returns-clause-row : goal.returns-clause-row
unfolding code_row
returns-clause-row c = search rules
