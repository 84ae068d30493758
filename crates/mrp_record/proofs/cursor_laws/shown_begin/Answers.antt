use Rattle.mrp_record.proofs.Texts as proved
use Rattle.mrp_record.proofs.cursor_laws.shown_begin.Goals as goal

pub returns : goal.returns
returns c = proved.shown_begin
