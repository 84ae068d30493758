use Rattle.mrp_api.specs.Lines.{table_line}
use Rattle.mrp_api.proofs.LineFacts.{table_line-row}
use Rattle.mrp_api.proofs.lines.send_table_line.Goals as goal

pub returns-in-Memory : goal.returns-in-Memory
unfolding table_line
returns-in-Memory g c = rw c.in-Memory.is c.send_words.ensures

pub returns-in_default : goal.returns-in_default
unfolding table_line
returns-in_default g c = rw (table_line-row c.args.fault.now c.args.fault.now.kind c.in_default.not-Memory) c.send_row_line.ensures
