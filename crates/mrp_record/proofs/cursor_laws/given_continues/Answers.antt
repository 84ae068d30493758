use Rattle.mrp_record.proofs.Steps as proved
use Rattle.mrp_record.proofs.cursor_laws.given_continues.Goals as goal

pub returns : goal.returns
returns c = proved.given_continues
