use Rattle.mrp_record.proofs.Queues as proved
use Rattle.mrp_record.proofs.cursor_laws.looks_at_queued.Goals as goal

pub returns : goal.returns
returns c = proved.looks_at_queued
