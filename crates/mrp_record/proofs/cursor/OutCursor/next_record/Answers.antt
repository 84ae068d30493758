use Rattle.std.proofs.Common.{rules}
use Rattle.mrp_record.proofs.cursor.OutCursor.next_record.Goals as goal

pub returns-in-None : goal.returns-in-None
returns-in-None c = search rules
