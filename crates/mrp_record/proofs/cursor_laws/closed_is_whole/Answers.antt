use Rattle.mrp_record.proofs.Texts as proved
use Rattle.mrp_record.proofs.cursor_laws.closed_is_whole.Goals as goal

pub returns-clause-closed : goal.returns-clause-closed
returns-clause-closed c = proved.closed_is_shown

pub returns-clause-whole : goal.returns-clause-whole
returns-clause-whole c = proved.closed_shows_whole
