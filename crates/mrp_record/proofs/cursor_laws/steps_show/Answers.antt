use Rattle.mrp_record.proofs.Steps as proved
use Rattle.mrp_record.proofs.cursor_laws.steps_show.Goals as goal

pub returns-clause-shows : goal.returns-clause-shows
returns-clause-shows c = proved.steps_show

pub returns-clause-places : goal.returns-clause-places
returns-clause-places c = proved.steps_keep_places
