use Rattle.std.proofs.Common.{rules}
use Rattle.mrp_record.proofs.cursor.OutCursor.closing_record.Goals as goal

pub returns : goal.returns
returns c = search rules

pub returns-then-self : goal.returns-then-self
returns-then-self c = search rules
