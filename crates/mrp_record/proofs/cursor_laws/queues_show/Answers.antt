use Rattle.mrp_record.proofs.Queues as queues
use Rattle.mrp_record.proofs.Texts as texts
use Rattle.mrp_record.proofs.cursor_laws.queues_show.Goals as goal

pub returns-clause-more : goal.returns-clause-more
returns-clause-more c = queues.queues_show

pub returns-clause-places : goal.returns-clause-places
returns-clause-places c = texts.queued_are_places
