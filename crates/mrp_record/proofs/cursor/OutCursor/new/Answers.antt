use Rattle.std.proofs.Common.{length}
use Rattle.mrp_record.proofs.Queues.{none_shows}
use Rattle.mrp_record.proofs.cursor.OutCursor.new.Goals as goal

pub returns-clause-shows : goal.returns-clause-shows
returns-clause-shows c = λ goods. none_shows goods (length c.in_ok-slots.slots.items) c.unsent.result c.unsent.ensures
