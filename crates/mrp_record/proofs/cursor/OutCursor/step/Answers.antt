use Rattle.std.proofs.Common.{rules}
use Rattle.mrp_record.proofs.cursor.OutCursor.step.Goals as goal

pub returns-in-Some : goal.returns-in-Some
returns-in-Some c = search rules
