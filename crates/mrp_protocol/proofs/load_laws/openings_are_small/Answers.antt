use Rattle.mrp_protocol.proofs.Small as proved
use Rattle.mrp_protocol.proofs.load_laws.openings_are_small.Goals as goal

pub returns : goal.returns
returns c = proved.openings_are_small
