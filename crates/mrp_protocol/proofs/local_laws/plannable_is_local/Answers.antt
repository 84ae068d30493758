use Rattle.mrp_protocol.proofs.LocalPlanned as proved
use Rattle.mrp_protocol.proofs.local_laws.plannable_is_local.Goals as goal

pub returns : goal.returns
returns c = proved.plannable_is_local
