use Rattle.mrp_record.proofs.Nothing as proved
use Rattle.mrp_record.proofs.cursor_laws.none_is_left.Goals as goal

pub returns : goal.returns
returns c = proved.none_is_left
