use Rattle.std.proofs.Common.{rules}
use Rattle.mrp_api.proofs.LineFacts.{sends-some}
use Rattle.mrp_api.proofs.lines.write_fault.Goals as goal

pub returns-in-Ok-clause-prefix : goal.returns-in-Ok-clause-prefix
returns-in-Ok-clause-prefix g c = sends-some _ _ _ c.send_line.result c.send_line.ensures

pub returns-in-Err-clause-line : goal.returns-in-Err-clause-line
returns-in-Err-clause-line g c = search rules
